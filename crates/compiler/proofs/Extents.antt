-- Signs told by a table: the number at the front of a row says how many words the sign takes, how many parts it has, and how much code.
use Rattle.std.proofs.Common.{◌≡◌, ℕ, zero, suc, ◌^◌, ◌<◌, ◌≤◌, ◌==◌, cond, List, [], ◌∷◌, length, get_or, slice_index, Some, Ok, Err, Result, false, sym, refl, ap, ◌∙◌, subst, arith}
use Rattle.std.specs.List.{slice_get}
use Rattle.std.specs.Result.{is_err}
use Rattle.std.proofs.lemmas.Bool.{true≢false}
use Rattle.std.proofs.lemmas.Option.{get_or_from_slice_get, slice_get_within}
use Rattle.rows.specs.Operations.{number, operations}
use Rattle.rows.specs.Signs.{op_of, row_sign, part_count, OperationSays}
use Rattle.rows.specs.RowFronts.{Begins}
use Rattle.rows.specs.declared.operations.Operation.{Operation as OperationSign}
use Rattle.rows.specs.declared.operations.Operation.TheVariants as sign
use Rattle.rows.specs.declared.operations.UnknownOperation.{UnknownOperation}
use Rattle.rows.specs.declared.signs.Sign.{Sign}
use Rattle.rows.specs.declared.signs.Sign.TheVariants.{Number, Argument, Word, Operation, If, Keep, Then, Out, Next, Call}
use Rattle.compiler.specs.Measuring.{own_size, signs, Extent}
use Rattle.compiler.specs.declared.measure.SignExtent.{SignExtent}

-- what the table says of a number, and how many parts stand behind the sign with that number at the front of a row
abbrev extent_of : ℕ → SignExtent
extent_of x = get_or signs x (record { words = 0; parts = 0; code = 0 })

abbrev parts_told : List ℕ → ℕ → ℕ
parts_told row x = cond (x == 9) (slice_index row 2) (extent_of x).parts

-- what the tests of a row find
pub record Tested (row : List ℕ) : Type 0 where
  pub known : get_or row 0 0 < 10
  pub inside : (extent_of (get_or row 0 0)).words ≤ length row
  pub operation : get_or row 0 0 ≡ 3 → get_or row 1 0 ≤ 5

-- a row that passes the tests has a sign at its front, of which the table tells
operation_told : (n : ℕ) → n ≤ 5 → (o : OperationSign) × (n ≡ number (op_of o))
operation_told zero h = (sign.Add, refl)
operation_told (suc zero) h = (sign.Sub, refl)
operation_told (suc (suc zero)) h = (sign.Mul, refl)
operation_told (suc (suc (suc zero))) h = (sign.Div, refl)
operation_told (suc (suc (suc (suc zero)))) h = (sign.Less, refl)
operation_told (suc (suc (suc (suc (suc zero))))) h = (sign.Same, refl)
operation_told (suc (suc (suc (suc (suc (suc n)))))) h = absurd (omega arith)

record Told (row : List ℕ) (x : ℕ) : Type 0 where
  sign : Sign
  begins : Begins row (extent_of x).words (row_sign sign)
  asked : parts_told row x ≡ part_count sign
  own : (extent_of x).code ≡ own_size sign

by_number : (x : ℕ) (xs : List ℕ) → Tested (x ∷ xs) → Told (x ∷ xs) x
by_number zero [] t = absurd (omega (arith, t.inside))
by_number zero (n ∷ xs) t = record { sign = Number n; begins = record { inside = t.inside; size = refl; begins = refl }; asked = refl; own = refl }
by_number (suc zero) [] t = absurd (omega (arith, t.inside))
by_number (suc zero) (i ∷ xs) t = record { sign = Argument i; begins = record { inside = t.inside; size = refl; begins = refl }; asked = refl; own = refl }
by_number (suc (suc zero)) [] t = absurd (omega (arith, t.inside))
by_number (suc (suc zero)) (i ∷ xs) t = record { sign = Word i; begins = record { inside = t.inside; size = refl; begins = refl }; asked = refl; own = refl }
by_number (suc (suc (suc zero))) [] t = absurd (omega (arith, t.inside))
by_number (suc (suc (suc zero))) (n ∷ xs) t =
    let (o, is) = operation_told n (t.operation refl) in
    record { sign = Operation o; begins = record { inside = t.inside; size = refl; begins = ap (λ m. 3 ∷ m ∷ xs) is }; asked = refl; own = refl }
by_number (suc (suc (suc (suc zero)))) xs t = record { sign = If; begins = record { inside = t.inside; size = refl; begins = refl }; asked = refl; own = refl }
by_number (suc (suc (suc (suc (suc zero))))) [] t = absurd (omega (arith, t.inside))
by_number (suc (suc (suc (suc (suc zero))))) (i ∷ xs) t = record { sign = Keep i; begins = record { inside = t.inside; size = refl; begins = refl }; asked = refl; own = refl }
by_number (suc (suc (suc (suc (suc (suc zero)))))) xs t = record { sign = Then; begins = record { inside = t.inside; size = refl; begins = refl }; asked = refl; own = refl }
by_number (suc (suc (suc (suc (suc (suc (suc zero))))))) xs t = record { sign = Out; begins = record { inside = t.inside; size = refl; begins = refl }; asked = refl; own = refl }
by_number (suc (suc (suc (suc (suc (suc (suc (suc zero)))))))) xs t = record { sign = Next; begins = record { inside = t.inside; size = refl; begins = refl }; asked = refl; own = refl }
by_number (suc (suc (suc (suc (suc (suc (suc (suc (suc zero))))))))) [] t = absurd (omega (arith, t.inside))
by_number (suc (suc (suc (suc (suc (suc (suc (suc (suc zero))))))))) (c ∷ []) t = absurd (omega (arith, t.inside))
by_number (suc (suc (suc (suc (suc (suc (suc (suc (suc zero))))))))) (c ∷ n ∷ xs) t = record { sign = Call (record { 0 = c }) n; begins = record { inside = t.inside; size = refl; begins = refl }; asked = refl; own = refl }
by_number (suc (suc (suc (suc (suc (suc (suc (suc (suc (suc x)))))))))) xs t = absurd (omega (arith, t.known))

told : (row : List ℕ) → Tested row → Told row (get_or row 0 0)
told [] t = absurd (omega (arith, t.inside))
told (x ∷ xs) t = by_number x xs t

-- an operation that a number was turned to had a number small enough
pub operation_small : (n : ℕ) (r : Result OperationSign UnknownOperation) → OperationSays n r → is_err r ≡ false → n ≤ 5
operation_small n (Ok o) says known = omega (arith, slice_get_within operations n (op_of o) says)
operation_small n (Err e) says known = absurd (true≢false known)

-- the same by the words as they were read: x is the first, y the second
module _ (row : List ℕ) (x y : ℕ) (first : x ≡ get_or row 0 0) (second : y ≡ get_or row 1 0) where
  tested : x < 10 → (extent_of x).words ≤ length row → (x ≡ 3 → y ≤ 5) → Tested row
  tested known inside operation = record {
    known = omega (arith, known);
    inside = subst (λ n. (extent_of n).words ≤ length row) first inside;
    operation = λ e. omega (arith, operation (first ∙ e));
  }

  pub extent_told : (e : SignExtent) (p : ℕ) → slice_get signs x ≡ Some e → e.words ≤ length row → (x ≡ 3 → y ≤ 5) → p < 2 ^ 32 → p ≡ cond (x == 9) (slice_index row 2) e.parts → Extent row e.words p e.code
  extent_told e p told_by inside operation few parts = go (slice_get_within signs x e told_by, get_or_from_slice_get signs x e _ told_by)
    where
      go : (x < length signs) × (get_or signs x (record { words = 0; parts = 0; code = 0 }) ≡ e) → Extent row e.words p e.code
      go (known, is) = same (subst (Told row) (sym first) (told row (tested known (subst (λ s. s.words ≤ length row) (sym is) inside) operation)))
        where
          same : Told row x → Extent row e.words p e.code
          same h = record {
            sign = h.sign;
            begins = subst (λ s. Begins row s.words (row_sign h.sign)) is h.begins;
            asked = parts ∙ ap (λ s. cond (x == 9) (slice_index row 2) s.parts) (sym is) ∙ h.asked;
            few = few;
            own = ap (λ s. s.code) (sym is) ∙ h.own;
          }
