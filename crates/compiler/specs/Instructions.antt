-- The one list of instructions that a compiler makes of a unit, and what comes of it: code words, fits, and the code where it lies.
use Rattle.std.specs.Prelude.{ℕ, ◌+◌, ◌%◌, ◌^◌, List, [], ◌∷◌, slice_index}
use Rattle.rows.specs.Objects.{Fit}
use Rattle.machine.specs.Instructions.{Opcode}
use Rattle.machine.specs.Opcodes.{opcode_number}

-- an operand, before it is known where the object will lie
pub data Operand : Type 0 where
  -- a number that stays as it is
  plain : ℕ → Operand
  -- a place in the object's own code; one of its own words; the place of a want
  in_code : ℕ → Operand
  in_words : ℕ → Operand
  of_want : ℕ → Operand

pub data Instruction : Type 0 where
  instr : Opcode → Operand → Instruction

-- the operand's word in the object, before it is fitted
abbrev pub operand_word : Operand → ℕ
operand_word (plain n) = n
operand_word (in_code a) = a
operand_word (in_words i) = i
operand_word (of_want n) = 0

abbrev pub code_words : List Instruction → List ℕ
code_words [] = []
code_words (instr o x ∷ is) = opcode_number o ∷ operand_word x ∷ code_words is

-- the fit of an operand at a, if it wants one, before these others
abbrev pub fit_operand : ℕ → Operand → List Fit → List Fit
fit_operand a (plain n) fs = fs
fit_operand a (in_code n) fs = record { at = a; kind = 0; want = 0 } ∷ fs
fit_operand a (in_words i) fs = record { at = a; kind = 1; want = 0 } ∷ fs
fit_operand a (of_want n) fs = record { at = a; kind = 2; want = n } ∷ fs

-- the fits of instructions that begin at a of the object's code
abbrev pub code_fits : ℕ → List Instruction → List Fit
code_fits a [] = []
code_fits a (instr o x ∷ is) = fit_operand (a + 1) x (code_fits (a + 2) is)

-- where an object lies: its code, its words, and the places of its wants
pub record Place : Type 0 where
  pub code : ℕ
  pub words : ℕ
  pub wants : List ℕ

-- the operand's word where the object lies so
abbrev pub placed_word : Place → Operand → ℕ
placed_word l (plain n) = n
placed_word l (in_code a) = (a + l.code) % 2 ^ 32
placed_word l (in_words i) = (i + l.words) % 2 ^ 32
placed_word l (of_want n) = slice_index l.wants n

abbrev pub placed_words : Place → List Instruction → List ℕ
placed_words l [] = []
placed_words l (instr o x ∷ is) = opcode_number o ∷ placed_word l x ∷ placed_words l is
