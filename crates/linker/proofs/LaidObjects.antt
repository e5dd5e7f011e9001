-- What is known of objects that are laid: they are those of the row, and their codes fit where the row fits.
use Rattle.std.proofs.Common.{◌≡◌, ℕ, ◌+◌, ◌≤◌, List, [], ◌∷◌, length, refl, ap, arith}
use Rattle.std.proofs.lemmas.List.{length-append}
use Rattle.rows.specs.Objects.{Object}
use Rattle.rows.specs.ObjectRows.{row_objects}
use Rattle.rows.specs.ObjectViews.{object_of}
use Rattle.linker.specs.Linking.{lay}
use Rattle.linker.specs.Tables.{laid_in, objects_of, unlaid, all_code}
use Rattle.linker.specs.declared.laying.Laid.{Laid as LaidView}

pub unlaid-lay : (os : List Object) (c w : ℕ) → unlaid (lay os c w) ≡ os
unlaid-lay [] c w = refl
unlaid-lay (o ∷ os) c w = ap (λ ps. o ∷ ps) (unlaid-lay os (c + length o.code) (w + o.words))

pub unlaid_in : (t : List LaidView) → unlaid (laid_in t) ≡ objects_of t
unlaid_in [] = refl
unlaid_in (l ∷ t) = ap (λ ps. object_of l.object ∷ ps) (unlaid_in t)

-- a row has at least the words of its objects' codes
pub code_in_row : (os : List Object) → all_code os ≤ length (row_objects os)
code_in_row [] = omega arith
code_in_row (o ∷ os) = simp length-append (omega (arith, code_in_row os))
