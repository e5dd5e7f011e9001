-- The instructions. Code is a list of words, two to an instruction: what it is, and its operand n.
use Rattle.std.specs.Prelude.{ℕ, zero, suc, ◌+◌, ◌-◌, ◌%◌, ◌^◌, cond, List, [], ◌∷◌, ◌++◌, drop, Some, None, Option, nat_lt, slice_index, slice_set}
use Rattle.std.specs.List.{slice_get}
use Rattle.rows.specs.Operations.{Op, operations, apply}
use Rattle.machine.specs.Machine.{Machine, at, top, move, go_on, push, budget, halt}

pub data Opcode : Type 0 where
  Halt : Opcode
  Push : Opcode
  Arg : Opcode
  Load : Opcode
  Store : Opcode
  Operate : Opcode
  JumpIfZero : Opcode
  Jump : Opcode
  Call : Opcode
  SetFrame : Opcode
  Return : Opcode
  Out : Opcode
  Next : Opcode
  Pop : Opcode
  Reserve : Opcode
  Release : Opcode
  Count : Opcode

-- an instruction's number is its place in this list
abbrev pub opcodes : List Opcode
opcodes = Halt ∷ Push ∷ Arg ∷ Load ∷ Store ∷ Operate ∷ JumpIfZero ∷ Jump ∷ Call ∷ SetFrame ∷ Return ∷ Out ∷ Next ∷ Pop ∷ Reserve ∷ Release ∷ Count ∷ []

-- how a halt with n ends: 1, 2 and 3 as they say, anything else is wild
abbrev pub ending : ℕ → ℕ
ending zero = 4
ending (suc zero) = 1
ending (suc (suc zero)) = 2
ending (suc (suc (suc zero))) = 3
ending (suc (suc (suc (suc n)))) = 4

-- the two topmost words become one; a number that is no operation's is wild
abbrev pub operate : Machine → Option Op → Machine
operate m None = halt m 4
operate m (Some o) = go_on m (m.sp - 1) (slice_set m.memory (m.sp - 2) (apply o (at m (m.sp - 2)) (top m)))

-- pops v, and goes to n if it is 0
abbrev pub branch : Machine → ℕ → ℕ → Machine
branch m zero n = move m n m.fp (m.sp - 1) m.memory
branch m (suc v) n = go_on m (m.sp - 1) m.memory

-- takes one of the calls left
abbrev pub count_call : Machine → ℕ → Machine
count_call m zero = halt m 2
count_call m (suc left) = budget m m.free left

abbrev pub act : Opcode → ℕ → Machine → Machine
-- 0: halt with n
act Halt n m = halt m (ending n)
-- 1: push n
act Push n m = push m n
-- 2: push the word at fp + n
act Arg n m = push m (at m (m.fp + n))
-- 3: push the word at n
act Load n m = push m (at m n)
-- 4: keep the top at n
act Store n m = go_on m m.sp (slice_set m.memory n (top m))
-- 5: operation n on the two topmost
act Operate n m = operate m (slice_get operations n)
-- 6: pop, go to n if it was 0
act JumpIfZero n m = branch m (top m) n
-- 7: go to n
act Jump n m = move m n m.fp m.sp m.memory
-- 8: push the place behind this instruction and fp, go to n
act Call n m = move m n m.fp (m.sp + 2) (slice_set (slice_set m.memory m.sp ((m.pc + 2) % 2 ^ 32)) (m.sp + 1) (m.fp % 2 ^ 32))
-- 9: fp becomes sp less n and 2
act SetFrame n m = move m (m.pc + 2) (m.sp - (2 + n)) m.sp m.memory
-- 10: return from n arguments: the top goes to fp, sp behind it; pc and fp from behind the arguments
act Return n m = move m (at m (m.fp + n)) (at m (m.fp + (n + 1))) (m.fp + 1) (slice_set m.memory m.fp (top m))
-- 11: put out the top
act Out n m = record { pc = m.pc + 2; fp = m.fp; sp = m.sp; memory = m.memory; free = m.free; left = m.left; tape = m.tape; outs = m.outs ++ (top m ∷ []); halted = 0 }
-- 12: push the tape's next word, 0 at its end
act Next n m = record { pc = m.pc + 2; fp = m.fp; sp = m.sp + 1; memory = slice_set m.memory m.sp (slice_index m.tape 0); free = m.free; left = m.left; tape = drop 1 m.tape; outs = m.outs; halted = 0 }
-- 13: pop
act Pop n m = go_on m (m.sp - 1) m.memory
-- 14: free less n, or halt with 3
act Reserve n m = cond (nat_lt m.free n) (halt m 3) (budget m (m.free - n) m.left)
-- 15: free and n, modulo 2^32
act Release n m = budget m ((m.free + n) % 2 ^ 32) m.left
-- 16: left less 1, or halt with 2
act Count n m = count_call m m.left

-- a word that is no instruction's number, or lies behind the code, is wild; an operand behind the code is 0
abbrev pub act_at : Machine → Option Opcode → ℕ → Machine
act_at m None n = halt m 4
act_at m (Some i) n = act i n m

abbrev pub decode : Option ℕ → Option Opcode
decode None = None
decode (Some w) = slice_get opcodes w

-- a machine that has halted stays as it is
abbrev pub unless_halted : ℕ → Machine → Machine → Machine
unless_halted zero m m' = m'
unless_halted (suc h) m m' = m

abbrev pub step : List ℕ → Machine → Machine
step code m = unless_halted m.halted m (act_at m (decode (slice_get code m.pc)) (slice_index code (m.pc + 1)))

abbrev pub steps : ℕ → List ℕ → Machine → Machine
steps zero code m = m
steps (suc k) code m = steps k code (step code m)
