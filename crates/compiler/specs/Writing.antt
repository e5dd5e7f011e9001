-- Instructions as the code has them, a writer of code, and what it has written.
use Rattle.std.specs.Prelude.{◌≡◌, ℕ, ◌+◌, ◌*◌, ◌^◌, ◌<◌, ◌≤◌, List, [], ◌∷◌, ◌++◌, length, slice_set, Some, None, Option}
use Rattle.rows.specs.ObjectRows.{row_fits}
use Rattle.machine.specs.Opcodes.{opcode_of}
use Rattle.compiler.specs.Instructions.{Operand, plain, in_code, in_words, of_want, Instruction, instr, code_words, code_fits}
use Rattle.compiler.specs.Filling.{filled, rest}
use Rattle.compiler.specs.declared.instruction.Operand.{Operand as OperandWords}
use Rattle.compiler.specs.declared.instruction.Operand.TheVariants.{Plain, InCode, InWords, OfWant}
use Rattle.compiler.specs.declared.instruction.Instruction.{Instruction as InstructionWords}
use Rattle.compiler.specs.declared.filled.Filled.{Filled}
use Rattle.compiler.specs.declared.writer.Writer.{Writer}

-- which operand and instruction the code's types mean
abbrev pub operand_of : OperandWords → Operand
operand_of (Plain n) = plain n
operand_of (InCode a) = in_code a
operand_of (InWords i) = in_words i
operand_of (OfWant n) = of_want n

abbrev pub instruction_of : InstructionWords → Instruction
instruction_of i = instr (opcode_of i.opcode) (operand_of i.operand)

-- the words of an operand's fit, if it wants one
abbrev pub fit_row : Option (List ℕ) → List ℕ
fit_row None = []
fit_row (Some words) = words

-- what a writer has: the row that is left, what is written of code and of fits, and how many words are lent for each
pub record State : Type 0 where
  pub row : List ℕ
  pub code : List ℕ
  pub code_lent : ℕ
  pub fits : List ℕ
  pub fits_lent : ℕ

abbrev pub lent : Filled → ℕ
lent f = length (filled f) + length (rest f)

abbrev pub state : Writer → State
state w = record { row = w.row.now; code = filled w.code; code_lent = lent w.code; fits = filled w.fits; fits_lent = lent w.fits }

-- there is space for what the row can say, and for c words of code and f words of fits besides
pub record Space (c f : ℕ) (s : State) : Type 0 where
  pub for_code : length s.code + (4 * length s.row + c) ≤ s.code_lent
  pub for_fits : length s.fits + (6 * length s.row + f) ≤ s.fits_lent
  pub words : s.code_lent < 2 ^ 32

-- as many words are lent as before; words of the code are written, and no more than there was space for
pub record Gone (c f : ℕ) (s s' : State) : Type 0 where
  pub grows : length s.code ≤ length s'.code
  pub for_code : length s'.code + 4 * length s'.row ≤ length s.code + (4 * length s.row + c)
  pub for_fits : length s'.fits + 6 * length s'.row ≤ length s.fits + (6 * length s.row + f)
  pub code : s'.code_lent ≡ s.code_lent
  pub fits : s'.fits_lent ≡ s.fits_lent

-- these instructions and their fits were written behind what was written before
pub record Wrote (is : List Instruction) (s s' : State) : Type 0 where
  pub code : s'.code ≡ s.code ++ code_words is
  pub fits : s'.fits ≡ s.fits ++ row_fits (code_fits (length s.code) is)

-- there is space for one instruction and its fit
pub record SpaceOne (s : State) : Type 0 where
  pub for_code : length s.code + 2 ≤ s.code_lent
  pub for_fits : length s.fits + 3 ≤ s.fits_lent
  pub words : s.code_lent < 2 ^ 32

-- one instruction was written, and nothing else is changed
pub record WroteOne (i : Instruction) (s s' : State) : Type 0 where
  pub row : s'.row ≡ s.row
  pub code : s'.code_lent ≡ s.code_lent
  pub fits : s'.fits_lent ≡ s.fits_lent
  pub wrote : Wrote (i ∷ []) s s'

-- the same with one word of the code changed
abbrev pub changed : State → ℕ → ℕ → State
changed s i v = record { row = s.row; code = slice_set s.code i v; code_lent = s.code_lent; fits = s.fits; fits_lent = s.fits_lent }
