-- How the program holds a machine: registers, a memory, and places in the tape and in what is put out.
use Rattle.std.specs.Prelude.{◌≡◌, ℕ, suc, ◌+◌, ◌*◌, ◌^◌, ◌<◌, ◌≤◌, cond, ◌&&◌, List, length, take, drop, Some, None, Option, ◌==◌, nat_lt, slice_index}
use Rattle.std.specs.Borrow.{MutBor}
use Rattle.std.specs.List.{slice_get}
use Rattle.machine.specs.declared.ending.Status.{Status}
use Rattle.machine.specs.declared.ending.Status.TheVariants.{Running, Done, NoCalls, NoRoom, Wild}
use Rattle.machine.specs.declared.registers.Registers.{Registers}
use Rattle.machine.specs.declared.instruction.Instruction.{Instruction}
use Rattle.machine.specs.declared.opcode.Opcode.{Opcode}
use Rattle.machine.specs.Opcodes.{opcode_of}
use Rattle.machine.specs.Machine.{Machine}
use Rattle.machine.specs.Instructions.{Out, Next, act, decode, step, steps}

abbrev pub halted_as : Status → ℕ
halted_as Running = 0
halted_as Done = 1
halted_as NoCalls = 2
halted_as NoRoom = 3
halted_as Wild = 4

-- the machine that registers stand for
abbrev pub machine : Registers → List ℕ → List ℕ → List ℕ → Machine
machine r memory tape out = record { pc = r.pc; fp = r.fp; sp = r.sp; memory = memory; free = r.free; left = r.left; tape = drop r.read tape; outs = take r.put out; halted = halted_as r.status }

-- where a run begins
abbrev pub begin_registers : ℕ → ℕ → ℕ → Registers
begin_registers words room calls = record { pc = 0; fp = words; sp = words; free = room; left = calls; read = 0; put = 0; status = Running }

-- the same registers with another status
abbrev pub with_status : Registers → Status → Registers
with_status r status = record { pc = r.pc; fp = r.fp; sp = r.sp; free = r.free; left = r.left; read = r.read; put = r.put; status = status }

-- the same registers at the instruction behind
abbrev pub next_registers : Registers → Registers
next_registers r = record { pc = r.pc + 2; fp = r.fp; sp = r.sp; free = r.free; left = r.left; read = r.read; put = r.put; status = r.status }

-- the instruction at a place of the code, where an opcode's number stands there
abbrev pub Fetched : List ℕ → ℕ → Option Instruction → Type 0
Fetched code pc None = decode (slice_get code pc) ≡ None
Fetched code pc (Some i) = (decode (slice_get code pc) ≡ Some (opcode_of i.opcode)) × (slice_index code (pc + 1) ≡ i.n)

-- its operand, if its opcode has that number and all of it lies in the code
abbrev pub operand_at : List ℕ → ℕ → ℕ → Option ℕ
operand_at code pc number = cond (nat_lt (pc + 1) (length code) && slice_index code pc == number) (Some (slice_index code (pc + 1))) None

-- pc, fp and sp are at most b: what a run can come to fits in 64 bits
abbrev pub Within : ℕ → Registers → Type 0
Within b r = (r.pc ≤ b) × (r.fp ≤ b) × (r.sp ≤ b)

pub record Ready (r : Registers) : Type 0 where
  pub running : r.status ≡ Running
  pub within : Within (2 ^ 40) r

-- r' and memory' stand for what f makes of the machine, whatever its tape and output; nothing is put out
pub record Acted (r r' : Registers) (memory memory' : List ℕ) (f : Machine → Machine) : Type 0 where
  pub is : (tape out : List ℕ) → machine r' memory' tape out ≡ f (machine r memory tape out)
  pub put : r'.put ≡ r.put
  pub within : (b : ℕ) → 2 ^ 32 ≤ b → Within b r → Within (b + 2) r'

-- the same of what leaves the memory as it is
abbrev pub ActedAlone : Registers → Registers → (Machine → Machine) → Type 0
ActedAlone r r' f = (memory : List ℕ) → Acted r r' memory memory f

-- a call of a closure, of which pre and post tell, does what the opcode's instruction does
abbrev pub Does : Opcode → (Registers → ℕ → MutBor (List ℕ) → Type 0) → (Registers → ℕ → MutBor (List ℕ) → Registers → MutBor (List ℕ) → Type 0) → Type 0
Does opcode pre post = (r : Registers) (n : ℕ) (memory : MutBor (List ℕ)) → Ready r →
    pre r n memory × ((r' : Registers) (memory' : MutBor (List ℕ)) → post r n memory r' memory' → Acted r r' memory.now memory'.now (act (opcode_of opcode) n))

-- one word more is put out, and what lies behind it in out is as it was; nothing where out is full
pub record OneOut (r r' : Registers) (memory out out' : List ℕ) : Type 0 where
  pub is : (tape : List ℕ) → machine r' memory tape out' ≡ act Out 0 (machine r memory tape out)
  pub grows : r.put ≤ r'.put
  pub put : r'.put ≤ length out
  pub rest : drop r'.put out' ≡ drop r'.put out
  pub within : (b : ℕ) → 2 ^ 32 ≤ b → Within b r → Within (b + 2) r'

abbrev pub PutOut : Registers → List ℕ → List ℕ → List ℕ → Option Registers → Type 0
PutOut r memory out out' None = (length out ≤ r.put) × (out' ≡ out)
PutOut r memory out out' (Some r') = OneOut r r' memory out out'

-- the tape's next word is taken
pub record TookNext (r : Registers) (tape memory memory' : List ℕ) (r' : Registers) : Type 0 where
  pub is : (out : List ℕ) → machine r' memory' tape out ≡ act Next 0 (machine r memory tape out)
  pub put : r'.put ≡ r.put
  pub within : (b : ℕ) → 2 ^ 32 ≤ b → Within b r → Within (b + 2) r'

-- instructions that often follow one another are done in one turn: from r, k more steps and at most as many as are spare
pub record WentOn (code : List ℕ) (spare : ℕ) (r : Registers) (memory memory' : List ℕ) (r' : Registers) (k : ℕ) : Type 0 where
  pub is : (tape out : List ℕ) → machine r' memory' tape out ≡ steps k code (machine r memory tape out)
  pub few : k ≤ spare
  pub put : r'.put ≡ r.put
  pub within : (b : ℕ) → 2 ^ 32 ≤ b → Within b r → Within (b + 2 * k) r'

-- one step from the machine that r stands for, and k more; what lies behind the words put out is as it was
pub record Turned (code tape : List ℕ) (spare : ℕ) (r : Registers) (memory memory' out out' : List ℕ) (r' : Registers) (k : ℕ) : Type 0 where
  pub is : machine r' memory' tape out' ≡ steps (suc k) code (machine r memory tape out)
  pub few : k ≤ spare
  pub grows : r.put ≤ r'.put
  pub put : r'.put ≤ length out
  pub rest : drop r'.put out' ≡ drop r'.put out
  pub within : (b : ℕ) → 2 ^ 32 ≤ b → Within b r → Within (b + 2 * suc k) r'

-- nothing where the step puts out more words than out holds
abbrev pub TurnSays : List ℕ → List ℕ → ℕ → Registers → List ℕ → List ℕ → List ℕ → List ℕ → Option (Registers × ℕ) → Type 0
TurnSays code tape spare r memory memory' out out' None = length out < length (step code (machine r memory tape out)).outs
TurnSays code tape spare r memory memory' out out' (Some x) = Turned code tape spare r memory memory' out out' x.0 x.1

-- all the steps of a run; what lies behind the words put out is as it was
pub record RanTo (code tape : List ℕ) (k : ℕ) (r : Registers) (memory memory' out out' : List ℕ) (r' : Registers) : Type 0 where
  pub is : machine r' memory' tape out' ≡ steps k code (machine r memory tape out)
  pub put : r'.put ≤ length out
  pub rest : drop r'.put out' ≡ drop r'.put out

-- nothing where they put out more words than out holds
abbrev pub RunSays : List ℕ → List ℕ → ℕ → Registers → List ℕ → List ℕ → List ℕ → List ℕ → Option Registers → Type 0
RunSays code tape k r memory memory' out out' None = length out < length (steps k code (machine r memory tape out)).outs
RunSays code tape k r memory memory' out out' (Some r') = RanTo code tape k r memory memory' out out' r'

-- one step of it
abbrev pub StepSays : List ℕ → List ℕ → Registers → List ℕ → List ℕ → List ℕ → List ℕ → Option Registers → Type 0
StepSays code tape r memory memory' out out' None = length out < length (step code (machine r memory tape out)).outs
StepSays code tape r memory memory' out out' (Some r') =
    (machine r' memory' tape out' ≡ step code (machine r memory tape out)) × (drop r'.put out' ≡ drop r'.put out)
