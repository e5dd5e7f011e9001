-- Runs of the machine, one after the other.
use Rattle.std.proofs.Common.{◌≡◌, ℕ, ◌+◌, List, get_or, Some, refl, ap, ◌∙◌}
use Rattle.std.specs.List.{slice_get}
use Rattle.machine.specs.Machine.{Machine}
use Rattle.machine.specs.Instructions.{Opcode, Halt, Push, Arg, Load, Store, Operate, JumpIfZero, Jump, Call, SetFrame}
use Rattle.machine.specs.Instructions.{Return, Out, Next, Pop, Reserve, Release, Count, opcodes, act, step, steps}
use Rattle.semantics.specs.Relation.{Halts}
use Rattle.machine.specs.Opcodes.{opcode_number}
use Rattle.machine.proofs.Steps.{steps_add}

pub opcode_there : (o : Opcode) → slice_get opcodes (opcode_number o) ≡ Some o
opcode_there Halt = refl
opcode_there Push = refl
opcode_there Arg = refl
opcode_there Load = refl
opcode_there Store = refl
opcode_there Operate = refl
opcode_there JumpIfZero = refl
opcode_there Jump = refl
opcode_there Call = refl
opcode_there SetFrame = refl
opcode_there Return = refl
opcode_there Out = refl
opcode_there Next = refl
opcode_there Pop = refl
opcode_there Reserve = refl
opcode_there Release = refl
opcode_there Count = refl

-- a step of a machine that runs, at an instruction that stands in the code
pub step_is : (code : List ℕ) (m : Machine) (o : Opcode) (n : ℕ) → m.halted ≡ 0 → slice_get code m.pc ≡ Some (opcode_number o) → get_or code (m.pc + 1) 0 ≡ n → step code m ≡ act o n m
step_is code m o n r i p = simp (step, r, i, p, opcode_there)

-- from one machine to another, in some number of steps
abbrev pub Goes : List ℕ → Machine → Machine → Type 0
Goes code m m' = (n : ℕ) × (steps n code m ≡ m')

pub goes_on : {code : List ℕ} {m m' m'' : Machine} → Goes code m m' → Goes code m' m'' → Goes code m m''
goes_on {code} {m} (n, p) (k, q) = (n + k, steps_add n k code m ∙ ap (steps k code) p ∙ q)

pub halts_after : {code : List ℕ} {h : ℕ} {outs : List ℕ} {m m' : Machine} → Goes code m m' → Halts code h outs m' → Halts code h outs m
halts_after {code} {m = m} {m' = m'} (n, p) (k, q, r) = (n + k, ap (λ (w : Machine). w.halted) same ∙ q, ap (λ (w : Machine). w.outs) same ∙ r)
  where
    same : steps (n + k) code m ≡ steps k code m'
    same = steps_add n k code m ∙ ap (steps k code) p

pub goes_step : (code : List ℕ) (m m' : Machine) → step code m ≡ m' → Goes code m m'
goes_step code m m' e = (1, e)
