-- What is shown of the compiler: its object does the unit's part, and has space.
use Rattle.std.specs.Prelude.{ℕ, ◌+◌, ◌*◌, ◌^◌, ◌≤◌, T, List, length}
use Rattle.rows.specs.Units.{SourceUnit}
use Rattle.rows.specs.UnitRows.{UnitRow, all_below}
use Rattle.rows.specs.ObjectRows.{row_object}
use Rattle.semantics.specs.Relation.{ObjectOf}
use Rattle.compiler.specs.Code.{object}

-- the object of a unit within the limits stands in the relation to it
abbrev pub Compiles : Type 0
Compiles = (s : List ℕ) (u : SourceUnit) → UnitRow s u → ObjectOf u (object u)

-- its row has words only, and is at most 256 words and 32 for each of the unit's long
pub record HasSpace (s : List ℕ) (u : SourceUnit) : Type 0 where
  pub words : T (all_below (2 ^ 32) (row_object (object u)))
  pub short : length (row_object (object u)) ≤ 32 * length s + 256

abbrev pub FitsSpace : Type 0
FitsSpace = (s : List ℕ) (u : SourceUnit) → UnitRow s u → T (all_below (2 ^ 32) s) → HasSpace s u
