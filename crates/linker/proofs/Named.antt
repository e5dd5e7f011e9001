-- Objects by their names.
use Rattle.std.proofs.Common.{◌≡◌, ℕ, zero, suc, ◌<◌, Bool, true, false, ◌||◌, eqb, List, [], ◌∷◌, length, get_or, Some, None, cond, Option, option_map, find, Bor, ⊎_elim, sym, refl, ap, ◌∙◌, ap₂, arith}
use Rattle.std.proofs.lemmas.Bool.{cases_eq, eq-eqb, ne_eqb, or_right, or_parts, both_ways}
use Rattle.std.specs.List.{list_any}
use Rattle.linker.specs.Linking.{named, has_name, twice}
use Rattle.linker.specs.Names.{stands_in, repeats}
use Rattle.linker.specs.Tables.{laid_of, laid_in, objects_of, names_of}
use Rattle.linker.specs.declared.laying.Laid.{Laid as LaidView}

-- the first object with a name is the first that is found to have it
first_or_other : (b : Bool) (x : LaidView) (r : Option LaidView) → option_map laid_of (cond b (Some x) r) ≡ cond b (Some (laid_of x)) (option_map laid_of r)
first_or_other true x r = refl
first_or_other false x r = refl

found_named : (n : ℕ) (t : List LaidView) → option_map laid_of (find (λ x. eqb n x.object.name) t) ≡ named n (laid_in t)
found_named n [] = refl
found_named n (x ∷ t) = first_or_other (eqb n x.object.name) x (find (λ y. eqb n y.object.name) t) ∙ ap (cond (eqb n x.object.name) (Some (laid_of x))) (found_named n t)

lent_laid : (r : Option (Bor LaidView)) → option_map (λ l. laid_of l.now) r ≡ option_map laid_of (option_map (λ l. l.now) r)
lent_laid None = refl
lent_laid (Some l) = refl

pub named_found : (n : ℕ) (t : List LaidView) (r : Option (Bor LaidView)) → option_map (λ l. l.now) r ≡ find (λ x. eqb n x.object.name) t → option_map (λ l. laid_of l.now) r ≡ named n (laid_in t)
named_found n t r is = lent_laid r ∙ (ap (option_map laid_of) is ∙ found_named n t)

-- an object in the table has its name
has_name-at : (n : ℕ) (t : List LaidView) (i : ℕ) (d : LaidView) → i < length t → (get_or t i d).object.name ≡ n → has_name n (objects_of t) ≡ true
has_name-at n [] i d inside same = absurd (omega arith)
has_name-at n (x ∷ t) zero d inside same = rw (eq-eqb n x.object.name (sym same)) refl
has_name-at n (x ∷ t) (suc i) d inside same = or_right (eqb n x.object.name) (has_name n (objects_of t)) (has_name-at n t i d (omega arith) same)

-- where no two have one name, the first object with a name is the only one
only_at : (n : ℕ) (t : List LaidView) (i : ℕ) (d : LaidView) → twice (objects_of t) ≡ false → i < length t → (get_or t i d).object.name ≡ n → named n (laid_in t) ≡ Some (laid_of (get_or t i d))
only_at n [] i d apart inside same = absurd (omega arith)
only_at n (x ∷ t) zero d apart inside same = rw (eq-eqb n x.object.name (sym same)) refl
only_at n (x ∷ t) (suc i) d apart inside same = rw (ne_eqb n x.object.name other) (only_at n t i d parts.1 (omega arith) same)
  where
    parts : (has_name x.object.name (objects_of t) ≡ false) × (twice (objects_of t) ≡ false)
    parts = or_parts (has_name x.object.name (objects_of t)) (twice (objects_of t)) apart

    other : n ≡ x.object.name → ⊥
    other e = both_ways (has_name x.object.name (objects_of t)) parts.0 (has_name-at x.object.name t i d (omega arith) (same ∙ e))

pub only_named : (n : ℕ) (t : List LaidView) (i : ℕ) (x : LaidView) → twice (objects_of t) ≡ false → i < length t → x ≡ get_or t i x → x.object.name ≡ n → named n (laid_in t) ≡ Some (laid_of x)
only_named n t i x apart inside is same = only_at n t i x apart inside (ap (λ y. y.object.name) (sym is) ∙ same) ∙ ap (λ y. Some (laid_of y)) (sym is)

-- whether a name is among others, whichever side it is compared on
either_way : (n x : ℕ) → eqb x n ≡ eqb n x
either_way n x = ⊎_elim (λ e. eq-eqb x n e ∙ sym (eq-eqb n x (sym e))) (λ other. ne_eqb x n other ∙ sym (ne_eqb n x (λ e. other (sym e)))) (cases_eq x n)

any_stands_in : (n : ℕ) (xs : List ℕ) → list_any (λ x. eqb x n) xs ≡ stands_in n xs
any_stands_in n [] = refl
any_stands_in n (x ∷ xs) = ap₂ (λ a b. a || b) (either_way n x) (any_stands_in n xs)

pub repeats_more : (n : ℕ) (left rest : List ℕ) (again : Bool) → left ≡ n ∷ rest → again ≡ list_any (λ x. eqb x n) rest → repeats left ≡ (again || repeats rest)
repeats_more n left rest again is told = ap repeats is ∙ ap (λ b. b || repeats rest) (sym (any_stands_in n rest) ∙ sym told)

-- two objects have one name where two of the names are the same
stands_in-names : (n : ℕ) (t : List LaidView) → stands_in n (names_of t) ≡ has_name n (objects_of t)
stands_in-names n [] = refl
stands_in-names n (x ∷ t) = ap (λ b. eqb n x.object.name || b) (stands_in-names n t)

repeats-names : (t : List LaidView) → repeats (names_of t) ≡ twice (objects_of t)
repeats-names [] = refl
repeats-names (x ∷ t) = ap₂ (λ a b. a || b) (stands_in-names x.object.name t) (repeats-names t)

-- whether two objects have one name is told by a list of their names
pub told_twice : (t : List LaidView) (names : List ℕ) (two : Bool) → names ≡ names_of t → two ≡ repeats names → twice (objects_of t) ≡ two
told_twice t names two are told = sym (told ∙ (ap repeats are ∙ repeats-names t))
