-- Neither order nor company matters: units of one program are found in the other by their names.
use Rattle.std.proofs.Common.{◌≡◌, ℕ, zero, suc, ◌-◌, ◌<◌, Bool, true, false, cond, T, ltb, ◌≢◌, List, [], ◌∷◌, ◌++◌, length, get_or, set, replicate, Some, None, Option, sym, refl, ap, ◌∙◌, subst, subst₂, inr, ⊎_elim, le_refl}
use Rattle.std.specs.List.{slice_get}
use Rattle.std.proofs.iter.runs.Lists.{none-some, same_Some}
use Rattle.std.proofs.lemmas.List.{length-set, get_or-set_same, get_or-set_other}
use Rattle.std.proofs.lemmas.Bool.{cases_eq}
use Rattle.rows.specs.Options.{◌>>=◌}
use Rattle.rows.specs.Units.{Want, SourceUnit}
use Rattle.semantics.specs.Runs.{keep_at, wanted, target, zeros}
use Rattle.semantics.specs.Whole.{names, distinct, all_met, Behaviour, done, without_calls, without_room}
use Rattle.semantics.specs.Company.{In, AnyCompany, CompanyDoesNotMatter}
use Rattle.semantics.proofs.Lookups.{Met, want_met, met_wanted, target_at}
use Rattle.semantics.proofs.Names.{same_place, nth_below, in_more, met_there}
use Rattle.semantics.proofs.AnyOrder.{fits_in_any_order}
use Rattle.semantics.proofs.NotBad.{ends}
use Rattle.semantics.proofs.Seen.{NotForWant}
use Rattle.semantics.proofs.Matched.{BothFind, neither, both}
use Rattle.semantics.proofs.SideBySide.{Correspond, programs_seen}

-- the places i and j have the same unit
abbrev SameUnit : List SourceUnit → List SourceUnit → ℕ → ℕ → Type 0
SameUnit us vs i j = (w : SourceUnit) × (slice_get us i ≡ Some w) × (slice_get vs j ≡ Some w)

-- words for every unit of both programs, and the same for the same unit
record SameWords (us vs : List SourceUnit) (ws ws' : List (List ℕ)) : Type 0 where
  all : length ws ≡ length us
  all' : length ws' ≡ length vs
  same : (i j : ℕ) → SameUnit us vs i j → get_or ws i [] ≡ get_or ws' j []

length-zeros : (us : List SourceUnit) → length (zeros us) ≡ length us
length-zeros [] = refl
length-zeros (u ∷ us) = ap suc (length-zeros us)

zeros_at : (us : List SourceUnit) (i : ℕ) (w : SourceUnit) → slice_get us i ≡ Some w → get_or (zeros us) i [] ≡ replicate w.words 0
zeros_at [] i w e = absurd (none-some w e)
zeros_at (u ∷ us) zero w e = ap (λ v. replicate v.words 0) (same_Some u w e)
zeros_at (u ∷ us) (suc i) w e = zeros_at us i w e

same_zeros : (us vs : List SourceUnit) → SameWords us vs (zeros us) (zeros vs)
same_zeros us vs = record { all = length-zeros us; all' = length-zeros vs; same = λ i j u. zeros_at us i u.0 u.1 ∙ sym (zeros_at vs j u.0 u.2) }

-- a unit has one place in a program
one_place : (us vs : List SourceUnit) (i j i₁ j₁ : ℕ) → T (distinct (names vs)) → SameUnit us vs i j → SameUnit us vs i₁ j₁ → i₁ ≡ i → j₁ ≡ j
one_place us vs i j i₁ j₁ apart u u₁ e =
    let same = same_Some u₁.0 u.0 (sym u₁.1 ∙ ap (slice_get us) e ∙ u.1) in
    same_place vs j₁ j u.0 apart (subst (λ w. slice_get vs j₁ ≡ Some w) same u₁.2) u.2

-- the units of us are met among themselves and are all among those of vs
module _ (us vs : List SourceUnit) (met : T (all_met us us)) (apart : T (distinct (names us))) (apart' : T (distinct (names vs)))
    (among : (w : SourceUnit) → In w us → In w vs) where
  same_wanted : (w : Want) → Met us w → BothFind (SameUnit us vs) (wanted us w) (wanted vs w)
  same_wanted w m =
      let j = met_there us vs apart' among w m in
      subst₂ (BothFind (SameUnit us vs)) (sym (met_wanted us w m.place m.named)) (sym (met_wanted vs w j.0 j.1)) (both refl (m.unit, m.there, j.2))

  same_callee : (i j : ℕ) → SameUnit us vs i j → (c : ℕ) → BothFind (SameUnit us vs) (target us i c) (target vs j c)
  same_callee i j u c =
      subst₂ (BothFind (SameUnit us vs)) (sym (target_at us i c u.0 u.1)) (sym (target_at vs j c u.0 u.2)) (which (ltb c (length u.0.wants)))
    where
      want : (o : Option Want) → slice_get u.0.wants c ≡ o → BothFind (SameUnit us vs) (o >>= wanted us) (o >>= wanted vs)
      want None e = neither
      want (Some w) e = same_wanted w (want_met us i c u.0 w met u.1 e)

      which : (b : Bool) → BothFind (SameUnit us vs)
          (cond b (slice_get u.0.wants c >>= wanted us) (Some (record { unit = i; proc = c - length u.0.wants })))
          (cond b (slice_get u.0.wants c >>= wanted vs) (Some (record { unit = j; proc = c - length u.0.wants })))
      which true = want (slice_get u.0.wants c) refl
      which false = both refl u

  same_keeps : (i j : ℕ) → SameUnit us vs i j → (ws ws' : List (List ℕ)) → SameWords us vs ws ws' → (n v : ℕ) → SameWords us vs (keep_at ws i n v) (keep_at ws' j n v)
  same_keeps i j u ws ws' w n v = record {
    all = length-set ws i _ ∙ w.all;
    all' = length-set ws' j _ ∙ w.all';
    same = λ i₁ j₁ u₁. ⊎_elim
        (λ e. here i₁ j₁ e (one_place us vs i j i₁ j₁ apart' u u₁ e))
        (λ ne. other i₁ j₁ u₁ ne (λ e. ne (one_place vs us j i j₁ i₁ apart (u.0, u.2, u.1) (u₁.0, u₁.2, u₁.1) e)))
        (cases_eq i₁ i);
  }
    where
      here : (i₁ j₁ : ℕ) → i₁ ≡ i → j₁ ≡ j → get_or (keep_at ws i n v) i₁ [] ≡ get_or (keep_at ws' j n v) j₁ []
      here i₁ j₁ e e' =
          ap (λ k. get_or (keep_at ws i n v) k []) e ∙ get_or-set_same ws i _ [] (subst (λ l. i < l) (sym w.all) (nth_below us i u.0 u.1))
          ∙ ap (λ xs. set xs n v) (w.same i j u)
          ∙ sym (ap (λ k. get_or (keep_at ws' j n v) k []) e' ∙ get_or-set_same ws' j _ [] (subst (λ l. j < l) (sym w.all') (nth_below vs j u.0 u.2)))

      other : (i₁ j₁ : ℕ) → SameUnit us vs i₁ j₁ → i₁ ≢ i → j₁ ≢ j → get_or (keep_at ws i n v) i₁ [] ≡ get_or (keep_at ws' j n v) j₁ []
      other i₁ j₁ u₁ ne ne' = get_or-set_other ws i i₁ _ [] ne ∙ w.same i₁ j₁ u₁ ∙ sym (get_or-set_other ws' j j₁ _ [] ne')

  all_same : Correspond us vs (SameUnit us vs) (SameWords us vs)
  all_same = record { unit = λ i j u. u.1 ∙ sym u.2; callee = same_callee; reads = λ i j u ws ws' w. w.same i j u; keeps = same_keeps }

as_much : (b : Behaviour) → NotForWant (Unit {0}) (Unit {0}) b
as_much (done ws) = tt
as_much (without_calls ws) = tt
as_much (without_room ws) = tt

any_company : AnyCompany
any_company u us vs fit fit' f room calls tape =
    let b = ends (u ∷ us) room calls tape fit in
    let both = programs_seen (u ∷ us) (u ∷ vs) (SameUnit (u ∷ us) (u ∷ vs)) (SameWords (u ∷ us) (u ∷ vs))
    (all_same (u ∷ us) (u ∷ vs) fit.met fit.apart fit'.apart (in_more u us vs f))
    (Unit {0}) (Unit {0}) (same_zeros (u ∷ us) (u ∷ vs)) (u, refl, refl) tape room room calls calls (le_refl room) (λ _. refl) (le_refl calls) (λ _. refl) in
    b.1 ∙ sym (both.same_end b.0 (as_much b.0) b.1)

in_between : (w : SourceUnit) (us vs : List SourceUnit) → (v : SourceUnit) → In v (us ++ vs) → In v (us ++ (w ∷ vs))
in_between w [] vs v h = inr h
in_between w (u ∷ us) vs v h = in_more u (us ++ vs) (us ++ (w ∷ vs)) (in_between w us vs) v h

pub company : CompanyDoesNotMatter
company = record {
  any_company = any_company;
  any_order = λ u us vs fit fit' same. any_company u us vs fit fit' (λ w. (same w).0);
  fits_in_any_order = fits_in_any_order;
  one_more = λ u w us vs fit fit'. any_company u (us ++ vs) (us ++ (w ∷ vs)) fit fit' (in_between w us vs);
}
