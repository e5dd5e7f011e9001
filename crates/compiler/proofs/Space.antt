-- The row of a unit's object has words only, and is short.
use Rattle.std.proofs.Common.{◌≡◌, ℕ, zero, suc, ◌+◌, ◌*◌, ◌^◌, ◌<◌, ◌≤◌, ◌&&◌, T, ltb, leb, List, [], ◌∷◌, ◌++◌, length, sym, refl, subst, arith, ltb→lt, lt→ltb, leb→le, length-append}
use Rattle.std.specs.List.{slice_get}
use Rattle.rows.specs.Units.{Proc, SourceUnit}
use Rattle.rows.specs.Formed.{depth}
use Rattle.rows.specs.Objects.{Fit, Offer}
use Rattle.rows.specs.UnitRows.{row_wants, row_unit, small_procs, all_below, UnitRow}
use Rattle.rows.specs.ObjectRows.{row_offers, row_fits, row_object}
use Rattle.machine.specs.Instructions.{Opcode, Halt, Push, Arg, Load, Store, Operate, JumpIfZero, Jump, Call, SetFrame, Return, Out, Next, Pop, Reserve, Release, Count}
use Rattle.machine.specs.Opcodes.{opcode_number}
use Rattle.compiler.specs.Instructions.{Operand, plain, in_code, in_words, of_want, Instruction, instr, operand_word, code_words, fit_operand, code_fits}
use Rattle.compiler.specs.Code.{code_unit, proc_args, offers_of, object}
use Rattle.compiler.specs.Correct.{FitsSpace}
use Rattle.rows.proofs.Decided.{T-parts, T-both}
use Rattle.compiler.proofs.Lengths.{size_procs, proc_at_most, row_length}
use Rattle.compiler.proofs.Operands.{Sane, AllSane}
use Rattle.compiler.proofs.Correct.{code_short, unit_sane}
use Rattle.compiler.proofs.Weights.{short_row}

-- each is a word
abbrev Words : List ℕ → Type 0
Words [] = Unit {0}
Words (x ∷ xs) = (x < 2 ^ 32) × Words xs

words_below : (xs : List ℕ) → Words xs → T (all_below (2 ^ 32) xs)
words_below [] h = tt
words_below (x ∷ xs) h = T-both (ltb x (2 ^ 32)) (all_below (2 ^ 32) xs) (lt→ltb x (2 ^ 32) h.0) (words_below xs h.1)

below_words : (xs : List ℕ) → T (all_below (2 ^ 32) xs) → Words xs
below_words [] h = tt
below_words (x ∷ xs) h = let r = T-parts (ltb x (2 ^ 32)) (all_below (2 ^ 32) xs) h in (ltb→lt x (2 ^ 32) r.0, below_words xs r.1)

words_both : (xs ys : List ℕ) → Words xs → Words ys → Words (xs ++ ys)
words_both [] ys h g = g
words_both (x ∷ xs) ys h g = (h.0, words_both xs ys h.1 g)

words_first : (xs ys : List ℕ) → Words (xs ++ ys) → Words xs
words_first [] ys h = tt
words_first (x ∷ xs) ys h = (h.0, words_first xs ys h.1)

opcode_small : (o : Opcode) → opcode_number o < 2 ^ 32
opcode_small Halt = omega arith
opcode_small Push = omega arith
opcode_small Arg = omega arith
opcode_small Load = omega arith
opcode_small Store = omega arith
opcode_small Operate = omega arith
opcode_small JumpIfZero = omega arith
opcode_small Jump = omega arith
opcode_small Call = omega arith
opcode_small SetFrame = omega arith
opcode_small Return = omega arith
opcode_small Out = omega arith
opcode_small Next = omega arith
opcode_small Pop = omega arith
opcode_small Reserve = omega arith
opcode_small Release = omega arith
opcode_small Count = omega arith

operand_small : (k : ℕ) (x : Operand) → Sane k x → operand_word x < 2 ^ 32
operand_small k (plain n) h = h
operand_small k (in_code n) h = h
operand_small k (in_words n) h = h
operand_small k (of_want n) h = omega arith

code_words_small : (k : ℕ) (is : List Instruction) → AllSane k is → Words (code_words is)
code_words_small k [] h = tt
code_words_small k (instr o x ∷ is) h = (opcode_small o, (operand_small k x h.0, code_words_small k is h.1))

fit_small : (k a : ℕ) (x : Operand) (fs : List Fit) → k ≤ 256 → a < 2 ^ 32 → Sane k x → Words (row_fits fs) → Words (row_fits (fit_operand a x fs))
fit_small k a (plain n) fs few b h r = r
fit_small k a (in_code n) fs few b h r = (b, (omega arith, (omega arith, r)))
fit_small k a (in_words n) fs few b h r = (b, (omega arith, (omega arith, r)))
fit_small k a (of_want n) fs few b h r = (b, (omega arith, (omega arith, r)))

fits_small : (k a : ℕ) (is : List Instruction) → k ≤ 256 → a + length (code_words is) < 2 ^ 32 → AllSane k is → Words (row_fits (code_fits a is))
fits_small k a [] few b h = tt
fits_small k a (instr o x ∷ is) few b h = fit_small k (a + 1) x (code_fits (a + 2) is) few (omega arith) h.0 (fits_small k (a + 2) is few (omega arith) h.1)

args_small : (qs : List Proc) (n : ℕ) → T (small_procs qs) → proc_args (slice_get qs n) ≤ 8
args_small [] n h = omega arith
args_small (q ∷ qs) zero h = leb→le q.args 8 (T-parts (leb q.args 8) (leb (depth q.body) 256 && small_procs qs) h).0
args_small (q ∷ qs) (suc n) h = args_small qs n (T-parts (leb (depth q.body) 256) (small_procs qs) (T-parts (leb q.args 8) (leb (depth q.body) 256 && small_procs qs) h).1).1

offers_small : (u : SourceUnit) (os : List ℕ) → length u.procs ≤ 256 → T (small_procs u.procs) → size_procs u.procs < 2 ^ 32 →
    T (all_below (length u.procs) os) → Words (row_offers (offers_of u os))
offers_small u [] few small short h = tt
offers_small u (o ∷ os) few small short h =
    let r = T-parts (ltb o (length u.procs)) (all_below (length u.procs) os) h in
    (omega (arith, ltb→lt o (length u.procs) r.0), (omega (arith, args_small u.procs o small), (omega (arith, proc_at_most u.procs o), offers_small u os few small short r.1)))

length-row_offers : (os : List Offer) → length (row_offers os) ≡ 3 * length os
length-row_offers [] = refl
length-row_offers (o ∷ os) = omega (arith, length-row_offers os)

pub length-row_fits : (fs : List Fit) → length (row_fits fs) ≡ 3 * length fs
length-row_fits [] = refl
length-row_fits (f ∷ fs) = omega (arith, length-row_fits fs)

module _ (s : List ℕ) (u : SourceUnit) (r : UnitRow s u) (words : T (all_below (2 ^ 32) s)) where
  unit_words : Words (row_unit u)
  unit_words = subst (λ (xs : List ℕ). Words xs) (sym r.row) (below_words s words)

  lengths : (length (offers_of u u.offers) < 2 ^ 32) × (length (code_words (code_unit u)) < 2 ^ 32) × (length (code_fits 0 (code_unit u)) < 2 ^ 32)
  lengths =
      let whole = simp length-append at (short_row s u r) in
      let offers = length-row_offers (offers_of u u.offers) in
      let fits = length-row_fits (code_fits 0 (code_unit u)) in
      (omega arith, omega arith, omega arith)

  object_words : Words (row_object (object u))
  object_words = (
    unit_words.0,
    (
      omega arith,
      (
        omega arith,
        (
          lengths.0,
          (
            lengths.1,
            (
              lengths.2,
              words_both (row_wants u.wants) _ (words_first (row_wants u.wants) _ unit_words.1.1.1.1.1)
                  (words_both (row_offers (offers_of u u.offers)) _ (offers_small u u.offers r.procs r.proc_sizes (omega (arith, row_length s u r, code_short s u r)) r.offers)
                  (words_both (code_words (code_unit u)) _ (code_words_small (length u.wants) (code_unit u) (unit_sane s u r))
                  (fits_small (length u.wants) 0 (code_unit u) r.wants (omega (arith, lengths.1)) (unit_sane s u r)))),
            ),
          ),
        ),
      ),
    ),
  )

pub fits_space : FitsSpace
fits_space s u r words = record { words = words_below (row_object (object u)) (object_words s u r words); short = omega (arith, short_row s u r) }
