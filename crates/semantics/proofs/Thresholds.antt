-- What stays once there is enough of something has a least amount.
use Rattle.std.proofs.Common.{◌≡◌, ℕ, zero, suc, ◌<◌, ◌≤◌, ◌⊎◌, List, Some, Option, sym, ap, ◌∙◌, subst, ⊎_elim, le_of_suc-le-suc, not-suc-le-zero}
use native.Mathlib.Nat.{le-suc}
use Rattle.std.proofs.iter.runs.Lists.{same_Some}
use Rattle.semantics.specs.Whole.{Behaviour}

-- f is the end with an amount; E says that the amount was enough, and `lacking ws` that it was not
module _ (f : ℕ → Option Behaviour) (E : Behaviour → Type 0) (lacking : List ℕ → Behaviour)
    (one_of_lem : (b : Behaviour) → E b ⊎ ((ws : List ℕ) × (b ≡ lacking ws)))
    (not_both : (ws : List ℕ) → E (lacking ws) → ⊥)
    (stays : (n n' : ℕ) → n ≤ n' → (b : Behaviour) → E b → f n ≡ Some b → f n' ≡ Some b)
    (before : (n n' : ℕ) → n ≤ n' → (b : Behaviour) → f n' ≡ Some b → (a : Behaviour) × (f n ≡ Some a)) where
  -- below an amount that was not enough none is
  lacks_below : (n n' : ℕ) → n ≤ n' → (ws : List ℕ) → f n' ≡ Some (lacking ws) → (ws' : List ℕ) × (f n ≡ Some (lacking ws'))
  lacks_below n n' le ws e = which (before n n' le (lacking ws) e)
    where
      which : (a : Behaviour) × (f n ≡ Some a) → (ws' : List ℕ) × (f n ≡ Some (lacking ws'))
      which a =
          ⊎_elim
          (λ h. absurd (not_both ws (subst E (same_Some a.0 (lacking ws) (sym (stays n n' le a.0 h a.1) ∙ e)) h)))
          (λ l. (l.0, a.1 ∙ ap Some l.1)) (one_of_lem a.0)

  abbrev Least : Behaviour → Type 0
  Least b = (m : ℕ) × ((c : ℕ) → m ≤ c → f c ≡ Some b) × ((c : ℕ) → c < m → (ws : List ℕ) × (f c ≡ Some (lacking ws)))

  pub least : (n : ℕ) (b : Behaviour) → E b → f n ≡ Some b → Least b
  least zero b h e = (0, (λ c le. stays 0 c le b h e), (λ c lt. absurd (not-suc-le-zero lt)))
  least (suc n) b h e = which (before n (suc n) (le-suc n) b e) (least n b h)
    where
      which : (a : Behaviour) × (f n ≡ Some a) → (f n ≡ Some b → Least b) → Least b
      which a below =
          ⊎_elim
          (λ h'. below (a.1 ∙ sym (stays n (suc n) (le-suc n) a.0 h' a.1) ∙ e))
          (λ l. (suc n, (λ c le. stays (suc n) c le b h e), (λ c lt. lacks_below c n (le_of_suc-le-suc lt) l.0 (a.1 ∙ ap Some l.1))))
          (one_of_lem a.0)
