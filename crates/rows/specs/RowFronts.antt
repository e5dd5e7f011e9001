-- What stands at the front of a row, and what its readers promise.
use Rattle.std.specs.Prelude.{◌≡◌, ℕ, ◌*◌, ◌≤◌, List, ◌++◌, length, drop, Some, None, Option, ◌≢◌}
use Rattle.std.specs.Borrow.{Bor}
use Rattle.std.specs.Simd.{first_chunks}

-- the first n words of a row are xs
pub record Begins (row : List ℕ) (n : ℕ) (xs : List ℕ) : Type 0 where
  pub inside : n ≤ length row
  pub size : n ≡ length xs
  pub begins : row ≡ xs ++ drop n row

-- what a reader gives: how many words at the front of the row write a thing that is as it should be, or that no such thing stands there
abbrev pub FrontSays : {X : Type 0} → (X → List ℕ) → (X → Type 0) → List ℕ → Option ℕ → Type 0
FrontSays {X} written Ok row None = (x : X) (rest : List ℕ) → Ok x → row ≢ written x ++ rest
FrontSays {X} written Ok row (Some n) = (x : X) × Ok x × Begins row n (written x)

-- n runs of three words at the front of a row, and the row behind them
pub record FirstThrees (row : List ℕ) (n : ℕ) (r : Bor (List (List ℕ)) × Bor (List ℕ)) : Type 0 where
  pub inside : 3 * n ≤ length row
  pub threes : r.0.now ≡ first_chunks 3 n row
  pub rest : r.1.now ≡ drop (3 * n) row
