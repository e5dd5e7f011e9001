-- The machine's state, and the few ways in which an instruction changes it.
use Rattle.std.specs.Prelude.{ℕ, ◌+◌, ◌-◌, List, [], replicate, slice_index, slice_set}

-- pc, fp and sp count in words. `memory` holds the units' words and, behind them, the stack. `free` is the room left for frames,
-- `left` the calls left; `tape` is what has not been taken yet, `outs` what was put out.
-- halted: 0 not yet, 1 done, 2 without calls, 3 without room, 4 wild
pub record Machine : Type 0 where
  pub pc : ℕ
  pub fp : ℕ
  pub sp : ℕ
  pub memory : List ℕ
  pub free : ℕ
  pub left : ℕ
  pub tape : List ℕ
  pub outs : List ℕ
  pub halted : ℕ

-- a machine begins with all words 0, fp and sp behind the units' words, and as many words of stack as there is room
abbrev pub begin : ℕ → ℕ → List ℕ → ℕ → Machine
begin words room tape calls = record { pc = 0; fp = words; sp = words; memory = replicate (words + room) 0; free = room; left = calls; tape = tape; outs = []; halted = 0 }

-- a word outside the memory reads 0; `set` leaves a list as it is where the place is outside
abbrev pub at : Machine → ℕ → ℕ
at m a = slice_index m.memory a

-- the top of the stack; with sp at 0 it is word 0
abbrev pub top : Machine → ℕ
top m = at m (m.sp - 1)

-- on to pc, with this fp, sp and memory
abbrev pub move : Machine → ℕ → ℕ → ℕ → List ℕ → Machine
move m pc fp sp memory = record { pc = pc; fp = fp; sp = sp; memory = memory; free = m.free; left = m.left; tape = m.tape; outs = m.outs; halted = 0 }

-- on to the next instruction, with this sp and memory
abbrev pub go_on : Machine → ℕ → List ℕ → Machine
go_on m sp memory = move m (m.pc + 2) m.fp sp memory

abbrev pub push : Machine → ℕ → Machine
push m v = go_on m (m.sp + 1) (slice_set m.memory m.sp v)

-- on to the next instruction, with this much room and so many calls left
abbrev pub budget : Machine → ℕ → ℕ → Machine
budget m free left = record { pc = m.pc + 2; fp = m.fp; sp = m.sp; memory = m.memory; free = free; left = left; tape = m.tape; outs = m.outs; halted = 0 }

abbrev pub halt : Machine → ℕ → Machine
halt m h = record { pc = m.pc; fp = m.fp; sp = m.sp; memory = m.memory; free = m.free; left = m.left; tape = m.tape; outs = m.outs; halted = h }
