-- Units that fit together do so in any order behind the first.
use Rattle.std.proofs.Common.{◌≡◌, ℕ, Bool, true, false, not, ◌||◌, T, eqb, List, [], ◌∷◌, Some, sym, refl, subst, inl, inr, eqb→eq, T_not}
use lib.Dec.{not_T}
use Rattle.std.specs.List.{slice_get}
use Rattle.rows.specs.Units.{SourceUnit}
use Rattle.rows.specs.Formed.{formed_procs}
use Rattle.semantics.specs.Whole.{among, names, distinct, unit_named, meets, wants_met, all_met, all_formed}
use Rattle.semantics.specs.Company.{In, FitsInAnyOrder}
use Rattle.semantics.proofs.Lookups.{and_both, both_and, nth_passes, all_pass, found_both, want_met}
use Rattle.semantics.proofs.Names.{among-names, in_place, place_in, in_more, met_there}

-- a name that is there is some unit's
named_in : (n : ℕ) (us : List SourceUnit) → T (among n (names us)) → (w : SourceUnit) × In w us × (n ≡ w.name)
named_in n [] t = absurd t
named_in n (u ∷ us) t = here_or_later (eqb n u.name) refl t (named_in n us)
  where
    here_or_later : (b : Bool) → eqb n u.name ≡ b → T (b || among n (names us)) → (T (among n (names us)) → (w : SourceUnit) × In w us × (n ≡ w.name)) →
        (w : SourceUnit) × In w (u ∷ us) × (n ≡ w.name)
    here_or_later true e t later = (u, inl refl, eqb→eq n u.name (subst T (sym e) tt))
    here_or_later false e t later = let w = later t in (w.0, inr w.1, w.2)

-- every unit of vs is one of us
module _ (us vs : List SourceUnit) (back : (w : SourceUnit) → In w vs → In w us) where
  place_back : (i : ℕ) (w : SourceUnit) → slice_get vs i ≡ Some w → (j : ℕ) × (slice_get us j ≡ Some w)
  place_back i w e = in_place us w (back w (place_in vs i w e))

  not_named : (n : ℕ) → T (not (among n (names us))) → T (not (among n (names vs)))
  not_named n t = not_T (among n (names vs)) λ h.
      let w = named_in n vs h in
      let i = in_place us w.0 (back w.0 w.1) in
      T_not (among n (names us)) t (subst (λ m. T (among m (names us))) (sym w.2) (among-names us i.0 w.0 i.1))

  still_formed : T (all_formed us) → T (all_formed vs)
  still_formed t = all_pass (λ v. formed_procs v v.procs) all_formed refl (λ _ _. refl) vs
      (λ i w e. let j = place_back i w e in nth_passes (λ v. formed_procs v v.procs) all_formed (λ _ _. refl) us j.0 w t j.1)

  still_met : T (distinct (names vs)) → ((w : SourceUnit) → In w us → In w vs) → T (all_met us us) → T (all_met vs vs)
  still_met apart forth t = all_pass (λ v. wants_met vs v.wants) (all_met vs) refl (λ _ _. refl) vs
      (λ i u e. all_pass (λ w. meets (unit_named w.unit vs) w) (wants_met vs) refl (λ _ _. refl) u.wants
      (λ c w f. let j = place_back i u e in
      let m = want_met us j.0 c u w t j.1 f in
      let k = met_there us vs apart forth w m in
      subst (λ o. T (meets o w)) (sym (found_both (slice_get vs) k.1 k.2)) m.offers))

pub fits_in_any_order : FitsInAnyOrder
fits_in_any_order u us vs fit apart same =
    let back = in_more u vs us (λ w. (same w).1) in
    let first = not_named us vs (λ w. (same w).1) u.name (and_both (not (among u.name (names us))) (distinct (names us)) fit.apart).0 in
    let all_apart = both_and (not (among u.name (names vs))) (distinct (names vs)) first apart in
    record {
      apart = all_apart;
      starts = fit.starts;
      met = still_met (u ∷ us) (u ∷ vs) back all_apart (in_more u us vs (λ w. (same w).0)) fit.met;
      formed = still_formed (u ∷ us) (u ∷ vs) back fit.formed;
    }
