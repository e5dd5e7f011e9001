-- Whether all wants are met, one object at a time.
use Rattle.std.proofs.Common.{◌≡◌, ℕ, zero, suc, ◌+◌, ◌<◌, ◌≤◌, true, false, ◌&&◌, List, [], ◌∷◌, ◌++◌, length, get_or, drop, is_some, Some, None, Option, sym, refl, ap, subst, ◌∙◌, arith}
use Rattle.std.proofs.lemmas.List.{at_drop_more, at_drop_all}
use Rattle.std.proofs.lemmas.Bool.{and_parts}
use Rattle.rows.specs.Options.{◌>>=◌}
use Rattle.rows.proofs.Decided.{some_value}
use Rattle.linker.specs.Linking.{Laid, places, fit_all, codes}
use Rattle.linker.specs.Tables.{laid_of, laid_in}
use Rattle.linker.specs.Fitting.{Met, places_of, fitted_codes}
use Rattle.linker.specs.declared.laying.Laid.{Laid as LaidView}

-- two steps are there exactly if both are
both_there : {A B C : Type 0} (p : Option A) (q : Option B) (f : A → B → C) → is_some (p >>= (λ a. q >>= (λ b. Some (f a b)))) ≡ (is_some p && is_some q)
both_there None q f = refl
both_there (Some a) None f = refl
both_there (Some a) (Some b) f = refl

-- the first object's wants are met, and those of the others
pub met_first : (all : List Laid) (l : Laid) (ls : List Laid) → is_some (codes all (l ∷ ls)) ≡ (is_some (places all l.object.wants) && is_some (codes all ls))
met_first all l ls = both_there (places all l.object.wants) (codes all ls) (λ ps rest. fit_all l ps l.object.fits l.object.code ++ rest)

-- what is left of a table begins with the object x
pub drop_here : {B : Type 0} (f : List LaidView → B) (t : List LaidView) (i : ℕ) (x : LaidView) → i < length t → x ≡ get_or t i x → f (drop i t) ≡ f (x ∷ drop (i + 1) t)
drop_here f t i x inside is = at_drop_more f t i x inside ∙ ap (λ y. f (y ∷ drop (i + 1) t)) (sym is)

module _ (all : List Laid) (t : List LaidView) (i : ℕ) (x : LaidView) (inside : i < length t) (is : x ≡ get_or t i x) where
  met_from : is_some (codes all (laid_in (drop i t))) ≡ (is_some (places all (laid_of x).object.wants) && is_some (codes all (laid_in (drop (i + 1) t))))
  met_from = drop_here (λ ls. is_some (codes all (laid_in ls))) t i x inside is ∙ met_first all (laid_of x) (laid_in (drop (i + 1) t))

  pub not_met_here : places all (laid_of x).object.wants ≡ None → is_some (codes all (laid_in (drop i t))) ≡ false
  not_met_here e = met_from ∙ ap (λ r. is_some r && is_some (codes all (laid_in (drop (i + 1) t)))) e

  pub met_here : Met all (laid_of x).object.wants → is_some (codes all (laid_in (drop i t))) ≡ is_some (codes all (laid_in (drop (i + 1) t)))
  met_here met = met_from ∙ ap (λ b. b && is_some (codes all (laid_in (drop (i + 1) t)))) met

pub met_end : (all : List Laid) (t : List LaidView) (i : ℕ) → length t ≤ i → is_some (codes all (laid_in (drop i t))) ≡ true
met_end all t i end = at_drop_all (λ ls. is_some (codes all (laid_in ls))) t i end

-- where all wants are met, the first object's are, and the others'
pub met_parts : (all : List Laid) (l : Laid) (ls : List Laid) → is_some (codes all (l ∷ ls)) ≡ true → Met all l.object.wants × (is_some (codes all ls) ≡ true)
met_parts all l ls met = and_parts (is_some (places all l.object.wants)) (is_some (codes all ls)) (sym (met_first all l ls) ∙ met)

-- where all wants are met, the codes are those fitted
pub codes_met : (all ls : List Laid) → is_some (codes all ls) ≡ true → codes all ls ≡ Some (fitted_codes all ls)
codes_met all [] met = refl
codes_met all (l ∷ ls) met =
    let parts = met_parts all l ls met in
    ap (λ r. r >>= (λ ps. codes all ls >>= joined ps)) (some_value (places all l.object.wants) [] parts.0) ∙ ap (λ r. r >>= joined (places_of all l.object.wants)) (codes_met all ls parts.1)
  where
    joined : List ℕ → List ℕ → Option (List ℕ)
    joined ps rest = Some (fit_all l ps l.object.fits l.object.code ++ rest)

-- and each object's wants are met
met_in : (all : List Laid) (t : List LaidView) (i : ℕ) (d : LaidView) → i < length t → is_some (codes all (laid_in t)) ≡ true → Met all (laid_of (get_or t i d)).object.wants
met_in all [] i d inside met = absurd (omega arith)
met_in all (x ∷ t) zero d inside met = (met_parts all (laid_of x) (laid_in t) met).0
met_in all (x ∷ t) (suc i) d inside met = met_in all t i d (omega arith) (met_parts all (laid_of x) (laid_in t) met).1

pub met_at : (all : List Laid) (t : List LaidView) (i : ℕ) (x : LaidView) → i < length t → x ≡ get_or t i x → is_some (codes all (laid_in t)) ≡ true → Met all (laid_of x).object.wants
met_at all t i x inside is met = subst (λ y. Met all (laid_of y).object.wants) (sym is) (met_in all t i x inside met)
