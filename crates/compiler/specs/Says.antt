-- What `compile` promises, on any words.
use Rattle.std.specs.Prelude.{◌≡◌, ℕ, ◌+◌, ◌*◌, ◌<◌, ◌⊎◌, ◌↔◌, List, [], ◌∷◌, length, take, drop, Ok, Err, Result}
use Rattle.rows.specs.Units.{SourceUnit}
use Rattle.rows.specs.UnitRows.{UnitRow}
use Rattle.rows.specs.UnitReading.{OneUnit}
use Rattle.rows.specs.ObjectRows.{row_object, ObjectRows}
use Rattle.rows.specs.declared.units.Refusal.{Refusal}
use Rattle.rows.specs.declared.units.Refusal.TheVariants.{NoUnit, Short}
use Rattle.semantics.specs.Relation.{ObjectOf}
use Rattle.semantics.specs.Theorems.{Demands}
use Rattle.semantics.specs.Ends.{Ends}
use Rattle.semantics.specs.Company.{CompanyDoesNotMatter}
use Rattle.compiler.specs.Code.{object}
use Rattle.compiler.specs.Simulation.{SimulatesExpressions}
use Rattle.compiler.specs.Together.{CompiledRuns}

-- the row s says a unit; the row of its object, of n words, stands first in o', and the rest of o is as it was.
-- The object is that of the definition, and it stands in the relation to its unit; a linker reads its row as that object
pub record CompiledObject (s o o' : List ℕ) (n : ℕ) : Type 0 where
  pub unit : SourceUnit
  pub row : UnitRow s unit
  pub related : ObjectOf unit (object unit)
  pub accepted : ObjectRows (row_object (object unit)) (object unit ∷ [])
  pub size : n ≡ length (row_object (object unit))
  pub holds : take n o' ≡ row_object (object unit)
  pub rest : drop n o' ≡ drop n o

-- the row says no unit
pub record SaysNoUnit (s o o' : List ℕ) : Type 0 where
  pub none : (u : SourceUnit) → UnitRow s u → ⊥
  pub kept : o' ≡ o

abbrev pub CompiledSays : List ℕ → List ℕ → List ℕ → Result ℕ Refusal → Type 0
CompiledSays s o o' (Ok n) = CompiledObject s o o' n
CompiledSays s o o' (Err NoUnit) = SaysNoUnit s o o'
CompiledSays s o o' (Err Short) = o' ≡ o

-- too few words are lent for a row of n words: for the object, or to work with
abbrev pub TooShort : ℕ → ℕ → ℕ → Type 0
TooShort n object work = (object < 256 + 32 * n) ⊎ (work < 4096 + 16 * n)

-- s: the unit's row; o and o': the object's words before and after; w: how many work words there are
pub record CompiledPost (s o o' : List ℕ) (w : ℕ) (r : Result ℕ Refusal) : Type 0 where
  pub says : CompiledSays s o o' r
  pub short : TooShort (length s) (length o) w ↔ (r ≡ Err Short)
  -- rows say at most one unit
  pub one_unit : OneUnit
  -- code for an expression does what the expression does, as long as its calls do what they should
  pub expressions : SimulatesExpressions
  -- what follows from the relation: objects of units that fit together link, and the image does what the units do
  pub demands : Demands
  -- so that units compiled one by one are run as they do together
  pub together : CompiledRuns
  -- programs end, and neither the order of the units nor what else is there changes what they do
  pub ends : Ends
  pub company : CompanyDoesNotMatter
