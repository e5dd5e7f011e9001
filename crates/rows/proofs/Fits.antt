-- Fits are inside an object if each is.
use Rattle.std.proofs.Common.{◌≡◌, ℕ, Bool, true, false, ◌&&◌, ◌||◌, ltb, List, [], ◌∷◌, refl, ap, ◌∙◌}
use Rattle.std.specs.List.{list_all}
use Rattle.rows.specs.Objects.{Fit}
use Rattle.rows.specs.ObjectRows.{fits_inside}
use Rattle.rows.specs.ObjectViews.{fit_inside}

regroup : (a b c d : Bool) → ((a && (b && c)) && d) ≡ (a && (b && (c && d)))
regroup true true c d = refl
regroup true false c d = refl
regroup false b c d = refl

pub each_inside : (n k : ℕ) (fs : List Fit) → list_all (fit_inside n k) fs ≡ fits_inside n k fs
each_inside n k [] = refl
each_inside n k (f ∷ fs) = ap (λ rest. fit_inside n k f && rest) (each_inside n k fs) ∙ regroup (ltb f.at n) (ltb f.kind 3) (ltb f.kind 2 || ltb f.want k) (fits_inside n k fs)
