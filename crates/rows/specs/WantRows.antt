-- A unit's wants that are said by flat words, three words each.
use Rattle.std.specs.Prelude.{ℕ, List, [], ◌∷◌}
use Rattle.rows.specs.Units.{Want}

-- one or two words that are left over say nothing
abbrev pub wants_said : List ℕ → List Want
wants_said [] = []
wants_said (a ∷ []) = []
wants_said (a ∷ b ∷ []) = []
wants_said (a ∷ b ∷ c ∷ xs) = record { unit = a; proc = b; args = c } ∷ wants_said xs
