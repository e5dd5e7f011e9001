-- Wants that flat words say, cut into threes.
use Rattle.std.proofs.Common.{◌≡◌, ℕ, zero, suc, ◌/◌, List, [], ◌∷◌, map, length, refl, ap, arith}
use Rattle.std.specs.Simd.{first_chunks}
use Rattle.rows.specs.ObjectViews.{want_in}
use Rattle.rows.specs.WantRows.{wants_said}

pub said_by_threes : (k : ℕ) (s : List ℕ) → k ≡ length s / 3 → map want_in (first_chunks 3 k s) ≡ wants_said s
said_by_threes zero [] e = refl
said_by_threes zero (a ∷ []) e = refl
said_by_threes zero (a ∷ b ∷ []) e = refl
said_by_threes zero (a ∷ b ∷ c ∷ s) e = absurd (omega arith)
said_by_threes (suc k) [] e = absurd (omega arith)
said_by_threes (suc k) (a ∷ []) e = absurd (omega arith)
said_by_threes (suc k) (a ∷ b ∷ []) e = absurd (omega arith)
said_by_threes (suc k) (a ∷ b ∷ c ∷ s) e = ap (λ ws. record { unit = a; proc = b; args = c } ∷ ws) (said_by_threes k s (omega arith))
