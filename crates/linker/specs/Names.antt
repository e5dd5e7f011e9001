-- Whether two of several names are the same.
use Rattle.std.specs.Prelude.{ℕ, Bool, false, ◌||◌, List, [], ◌∷◌, ◌==◌}

abbrev pub stands_in : ℕ → List ℕ → Bool
stands_in n [] = false
stands_in n (x ∷ xs) = n == x || stands_in n xs

abbrev pub repeats : List ℕ → Bool
repeats [] = false
repeats (x ∷ xs) = stands_in x xs || repeats xs
