-- The place of one want among those of all.
use Rattle.std.proofs.Common.{◌≡◌, ℕ, zero, suc, List, [], ◌∷◌, get_or, Some, None, sym, refl}
use Rattle.std.specs.List.{slice_get}
use Rattle.std.proofs.lemmas.Option.{none-some, same_Some}
use Rattle.rows.specs.Options.{◌>>=◌}
use Rattle.rows.specs.Units.{Want}
use Rattle.rows.proofs.Decided.{bind_some}
use Rattle.linker.specs.Linking.{Laid, place, places}

-- where all wants are met, the first is, and the others are
pub places_first : (ls : List Laid) (w : Want) (ws : List Want) (ps : List ℕ) → places ls (w ∷ ws) ≡ Some ps → (p : ℕ) × (qs : List ℕ) × (place ls w ≡ Some p) × (places ls ws ≡ Some qs) × (ps ≡ p ∷ qs)
places_first ls w ws ps e = first (bind_some (place ls w) (λ p. places ls ws >>= (λ qs. Some (p ∷ qs))) ps e)
  where
    others : (p : ℕ) → place ls w ≡ Some p → (qs : List ℕ) × (places ls ws ≡ Some qs) × (Some (p ∷ qs) ≡ Some ps) → (p : ℕ) × (qs : List ℕ) × (place ls w ≡ Some p) × (places ls ws ≡ Some qs) × (ps ≡ p ∷ qs)
    others p h (qs, k, m) = (p, qs, h, k, sym (same_Some _ _ m))

    first : (p : ℕ) × (place ls w ≡ Some p) × ((places ls ws >>= (λ qs. Some (p ∷ qs))) ≡ Some ps) → (p : ℕ) × (qs : List ℕ) × (place ls w ≡ Some p) × (places ls ws ≡ Some qs) × (ps ≡ p ∷ qs)
    first (p, h, k) = others p h (bind_some (places ls ws) (λ qs. Some (p ∷ qs)) ps k)

-- a want that is there has the place of its number
pub place_at : (ls : List Laid) (ws : List Want) (ps : List ℕ) (k : ℕ) (w : Want) → places ls ws ≡ Some ps → slice_get ws k ≡ Some w → place ls w ≡ Some (get_or ps k 0)
place_at ls [] ps k w e n = absurd (none-some w n)
place_at ls (x ∷ ws) ps zero w e n = found (places_first ls x ws ps e)
  where
    found : (p : ℕ) × (qs : List ℕ) × (place ls x ≡ Some p) × (places ls ws ≡ Some qs) × (ps ≡ p ∷ qs) → place ls w ≡ Some (get_or ps zero 0)
    found (p, qs, h, k, m) = rw (← same_Some _ _ n, m) h
place_at ls (x ∷ ws) ps (suc k) w e n = found (places_first ls x ws ps e) (λ qs h. place_at ls ws qs k w h n)
  where
    found : (p : ℕ) × (qs : List ℕ) × (place ls x ≡ Some p) × (places ls ws ≡ Some qs) × (ps ≡ p ∷ qs) → ((qs : List ℕ) → places ls ws ≡ Some qs → place ls w ≡ Some (get_or qs k 0)) → place ls w ≡ Some (get_or ps (suc k) 0)
    found (p, qs, h, j, m) ih = rw m (ih qs j)

-- a want that isn't there has none
pub no_place_at : (ls : List Laid) (ws : List Want) (ps : List ℕ) (k : ℕ) → places ls ws ≡ Some ps → slice_get ws k ≡ None → get_or ps k 0 ≡ 0
no_place_at ls [] ps k e n = rw (← same_Some _ _ e) refl
no_place_at ls (x ∷ ws) ps zero e n = absurd (none-some x (sym n))
no_place_at ls (x ∷ ws) ps (suc k) e n = found (places_first ls x ws ps e) (λ qs h. no_place_at ls ws qs k h n)
  where
    found : (p : ℕ) × (qs : List ℕ) × (place ls x ≡ Some p) × (places ls ws ≡ Some qs) × (ps ≡ p ∷ qs) → ((qs : List ℕ) → places ls ws ≡ Some qs → get_or qs k 0 ≡ 0) → get_or ps (suc k) 0 ≡ 0
    found (p, qs, h, j, m) ih = rw m (ih qs j)
