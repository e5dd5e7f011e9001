-- Units are told apart by their names: where a unit is, its name is found.
use Rattle.std.proofs.Common.{◌≡◌, ℕ, zero, suc, ◌<◌, Bool, true, false, cond, not, ◌||◌, T, eqb, List, [], ◌∷◌, length, Some, None, Option, sym, refl, ap, ◌∙◌, subst, inl, inr, suc-le-suc, zero-le, T_not}
use lib.Dec.{eqb_refl}
use Rattle.std.specs.Option.{option_map}
use Rattle.std.specs.List.{slice_get}
use Rattle.std.proofs.iter.runs.Lists.{none-some, same_Some}
use Rattle.std.proofs.lemmas.Bool.{eq-eqb, ne_eqb, cond-true, cond-false, eqb-true}
use Rattle.rows.specs.Units.{Want, SourceUnit}
use Rattle.semantics.specs.Runs.{position}
use Rattle.semantics.specs.Whole.{among, names, distinct}
use Rattle.semantics.specs.Company.{In}
use Rattle.semantics.proofs.Lookups.{and_both, Met}

either_left : (a b : Bool) → T a → T (a || b)
either_left true b t = tt
either_left false b t = absurd t

either_right : (a b : Bool) → T b → T (a || b)
either_right true b t = tt
either_right false b t = t

pub among-names : (us : List SourceUnit) (i : ℕ) (w : SourceUnit) → slice_get us i ≡ Some w → T (among w.name (names us))
among-names [] i w e = absurd (none-some w e)
among-names (u ∷ us) zero w e =
    either_left (eqb w.name u.name) (among w.name (names us)) (subst (λ v. T (eqb v.name u.name)) (same_Some u w e) (eqb_refl u.name))
among-names (u ∷ us) (suc i) w e = either_right (eqb w.name u.name) (among w.name (names us)) (among-names us i w e)

-- the unit at i is found under its name
pub position-nth : (us : List SourceUnit) (i : ℕ) (w : SourceUnit) → T (distinct (names us)) → slice_get us i ≡ Some w → position w.name us ≡ Some i
position-nth [] i w t e = absurd (none-some w e)
position-nth (u ∷ us) zero w t e =
    cond-true (eqb w.name u.name) (Some 0) (option_map suc (position w.name us)) (eq-eqb w.name u.name (ap (λ v. v.name) (sym (same_Some u w e))))
position-nth (u ∷ us) (suc i) w t e =
    let apart = and_both (not (among u.name (names us))) (distinct (names us)) t in
    cond-false (eqb w.name u.name) (Some 0) (option_map suc (position w.name us))
    (ne_eqb w.name u.name (λ same. T_not (among u.name (names us)) apart.0 (subst (λ n. T (among n (names us))) same (among-names us i w e))))
    ∙ ap (option_map suc) (position-nth us i w apart.1 e)

mapped_found : {A B : Type 0} (f : A → B) (o : Option A) (b : B) → option_map f o ≡ Some b → (a : A) × (o ≡ Some a) × (f a ≡ b)
mapped_found f None b e = absurd (none-some b e)
mapped_found f (Some a) b e = (a, refl, same_Some (f a) b e)

-- a unit that is found has the name
pub position-named : (us : List SourceUnit) (n j : ℕ) (w : SourceUnit) → position n us ≡ Some j → slice_get us j ≡ Some w → w.name ≡ n
position-named [] n j w p e = absurd (none-some j p)
position-named (u ∷ us) n j w p e = here_or_later (eqb n u.name) refl p (λ i. position-named us n i w)
  where
    here_or_later : (b : Bool) → eqb n u.name ≡ b → cond b (Some 0) (option_map suc (position n us)) ≡ Some j →
        ((i : ℕ) → position n us ≡ Some i → slice_get us i ≡ Some w → w.name ≡ n) → w.name ≡ n
    here_or_later true same q later =
        ap (λ v. v.name) (sym (same_Some u w (subst (λ i. slice_get (u ∷ us) i ≡ Some w) (sym (same_Some 0 j q)) e))) ∙ sym (eqb-true n u.name same)
    here_or_later false same q later =
        let i = mapped_found suc (position n us) j q in
        later i.0 i.1 (subst (λ k. slice_get (u ∷ us) k ≡ Some w) (sym i.2) e)

pub same_place : (us : List SourceUnit) (i j : ℕ) (w : SourceUnit) → T (distinct (names us)) → slice_get us i ≡ Some w → slice_get us j ≡ Some w → i ≡ j
same_place us i j w t e f = same_Some i j (sym (position-nth us i w t e) ∙ position-nth us j w t f)

pub in_place : (us : List SourceUnit) (w : SourceUnit) → In w us → (i : ℕ) × (slice_get us i ≡ Some w)
in_place [] w h = absurd h
in_place (u ∷ us) w (inl e) = (0, ap Some (sym e))
in_place (u ∷ us) w (inr h) = let i = in_place us w h in (suc i.0, i.1)

pub place_in : (us : List SourceUnit) (i : ℕ) (w : SourceUnit) → slice_get us i ≡ Some w → In w us
place_in [] i w e = absurd (none-some w e)
place_in (u ∷ us) zero w e = inl (sym (same_Some u w e))
place_in (u ∷ us) (suc i) w e = inr (place_in us i w e)

pub nth_below : {X : Type 0} (xs : List X) (i : ℕ) (x : X) → slice_get xs i ≡ Some x → i < length xs
nth_below [] i x e = absurd (none-some x e)
nth_below (y ∷ xs) zero x e = suc-le-suc zero-le
nth_below (y ∷ xs) (suc i) x e = suc-le-suc (nth_below xs i x e)

pub in_more : (u : SourceUnit) (us vs : List SourceUnit) → ((w : SourceUnit) → In w us → In w vs) → (w : SourceUnit) → In w (u ∷ us) → In w (u ∷ vs)
in_more u us vs f w (inl e) = inl e
in_more u us vs f w (inr h) = inr (f w h)

-- in a program with all these units, what meets a want is found under its name
pub met_there : (us vs : List SourceUnit) → T (distinct (names vs)) → ((w : SourceUnit) → In w us → In w vs) →
    (w : Want) (m : Met us w) → (j : ℕ) × (position w.unit vs ≡ Some j) × (slice_get vs j ≡ Some m.unit)
met_there us vs apart among w m =
    let j = in_place vs m.unit (among m.unit (place_in us m.place m.unit m.there)) in
    let name = position-named us w.unit m.place m.unit m.named m.there in
    (j.0, subst (λ n. position n vs ≡ Some j.0) name (position-nth vs j.0 m.unit apart j.1), j.1)
