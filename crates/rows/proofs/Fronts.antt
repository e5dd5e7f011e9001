-- A row that ends before its object does.
use Rattle.std.proofs.Common.{◌≡◌, ℕ, ◌+◌, ◌*◌, ◌<◌, ◌≤◌, false, leb, List, [], ◌∷◌, length, get_or, take, drop, None, ◌-◌, ap, arith}
use Rattle.std.proofs.lemmas.List.{take_rest, length-drop}
use Rattle.std.proofs.lemmas.Bool.{lt-leb}
use Rattle.rows.specs.ObjectReading.{front}

-- four parts, of which the last is too short
pub too_short : (w o c f : ℕ) (xs behind_wants behind_offers behind_code : List ℕ) → 3 * w ≤ length xs → behind_wants ≡ drop (3 * w) xs → 3 * o ≤ length behind_wants → behind_offers ≡ drop (3 * o) behind_wants → c ≤ length behind_offers → behind_code ≡ drop c behind_offers → length behind_code < 3 * f → length xs < 3 * w + 3 * o + c + 3 * f
too_short w o c f xs behind_wants behind_offers behind_code has_wants wants has_offers offers has_code code short = omega (arith, simp length-drop at (ap length wants), simp length-drop at (ap length offers), simp length-drop at (ap length code))

pub front_none : (row : List ℕ) → 6 ≤ length row → length (take (length row - 6) (drop 6 row)) < 3 * get_or row 2 0 + 3 * get_or row 3 0 + get_or row 4 0 + 3 * get_or row 5 0 → front row ≡ None
front_none [] long short = absurd (omega arith)
front_none (a ∷ []) long short = absurd (omega arith)
front_none (a ∷ b ∷ []) long short = absurd (omega arith)
front_none (a ∷ b ∷ c ∷ []) long short = absurd (omega arith)
front_none (a ∷ b ∷ c ∷ d ∷ []) long short = absurd (omega arith)
front_none (a ∷ b ∷ c ∷ d ∷ e ∷ []) long short = absurd (omega arith)
front_none (a ∷ b ∷ c ∷ d ∷ e ∷ f ∷ xs) long short =
    let t : leb (3 * c + 3 * d + e + 3 * f) (length xs) ≡ false = lt-leb _ _ (rw (take_rest (a ∷ b ∷ c ∷ d ∷ e ∷ f ∷ xs) 6) at short) in
    rw t
