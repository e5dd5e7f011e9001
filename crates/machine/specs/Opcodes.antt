-- The opcodes of the code: which of the table's they are, and the numbers that they have in code.
use Rattle.std.specs.Prelude.{◌≡◌, ℕ, Some, None, Result, MatchResult}
use Rattle.std.specs.List.{slice_get}
use Rattle.machine.specs.Instructions as table
use Rattle.machine.specs.declared.opcode.Opcode.{Opcode}
use Rattle.machine.specs.declared.opcode.Opcode.TheVariants.{Halt, Push, Arg, Load, Store, Operate, JumpIfZero, Jump, Call, SetFrame, Return, Out, Next, Pop, Reserve, Release, Count}
use Rattle.machine.specs.declared.opcode.UnknownOpcode.{UnknownOpcode}

abbrev pub opcode_of : Opcode → table.Opcode
opcode_of Halt = table.Halt
opcode_of Push = table.Push
opcode_of Arg = table.Arg
opcode_of Load = table.Load
opcode_of Store = table.Store
opcode_of Operate = table.Operate
opcode_of JumpIfZero = table.JumpIfZero
opcode_of Jump = table.Jump
opcode_of Call = table.Call
opcode_of SetFrame = table.SetFrame
opcode_of Return = table.Return
opcode_of Out = table.Out
opcode_of Next = table.Next
opcode_of Pop = table.Pop
opcode_of Reserve = table.Reserve
opcode_of Release = table.Release
opcode_of Count = table.Count

-- an opcode's number, which is its place in the table's list
abbrev pub opcode_number : table.Opcode → ℕ
opcode_number table.Halt = 0
opcode_number table.Push = 1
opcode_number table.Arg = 2
opcode_number table.Load = 3
opcode_number table.Store = 4
opcode_number table.Operate = 5
opcode_number table.JumpIfZero = 6
opcode_number table.Jump = 7
opcode_number table.Call = 8
opcode_number table.SetFrame = 9
opcode_number table.Return = 10
opcode_number table.Out = 11
opcode_number table.Next = 12
opcode_number table.Pop = 13
opcode_number table.Reserve = 14
opcode_number table.Release = 15
opcode_number table.Count = 16

-- the opcode with this number, where the table has one there; else a refusal that tells the number
abbrev pub Decoded : ℕ → Result Opcode UnknownOpcode → Type 0
Decoded n r = MatchResult r (λ o. slice_get table.opcodes n ≡ Some (opcode_of o)) (λ e. (e.0 ≡ n) × (slice_get table.opcodes n ≡ None))

-- the number with which the table has the opcode
pub record Encoded (o : Opcode) (n : ℕ) : Type 0 where
  pub is : n ≡ opcode_number (opcode_of o)
  pub place : slice_get table.opcodes n ≡ Some (opcode_of o)
