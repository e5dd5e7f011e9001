-- The smallest example of a unit and an object of it, which no compiler made: how the relation is shown for such an object.
use Rattle.std.specs.Prelude.{ℕ, List, [], ◌∷◌}
use Rattle.rows.specs.Units.{num, SourceUnit}
use Rattle.rows.specs.Objects.{Object}
use Rattle.semantics.specs.Relation.{ObjectOf}

-- no words and no wants; procedure 0, which is offered, takes no arguments and gives 7
abbrev pub smallest : SourceUnit
smallest = record { name = 1; words = 0; wants = []; procs = record { args = 0; body = num 7 } ∷ []; offers = 0 ∷ [] }

-- takes a call, takes the frame of 5, sets fp, pushes 3 and 4, adds them, gives the frame back, returns from 0 arguments.
-- That it works out 3 + 4 where the unit says 7 is its own affair. Nothing in it is a place, so there are no fits
abbrev pub smallest_code : List ℕ
smallest_code = 16 ∷ 0 ∷ 14 ∷ 5 ∷ 9 ∷ 0 ∷ 1 ∷ 3 ∷ 1 ∷ 4 ∷ 5 ∷ 0 ∷ 15 ∷ 5 ∷ 10 ∷ 0 ∷ []

abbrev pub smallest_object : Object
smallest_object = record { name = 1; words = 0; wants = []; offers = record { proc = 0; args = 0; at = 0 } ∷ []; code = smallest_code; fits = [] }

abbrev pub SmallestObjectIsOne : Type 0
SmallestObjectIsOne = ObjectOf smallest smallest_object
