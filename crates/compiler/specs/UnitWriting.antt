-- What writing the object of a unit whose row has been opened promises.
use Rattle.std.specs.Prelude.{◌≡◌, ℕ, ◌+◌, ◌*◌, ◌≤◌, List, length, Some, None, Option}
use Rattle.rows.specs.Units.{SourceUnit}
use Rattle.rows.specs.UnitRows.{UnitRow}
use Rattle.rows.specs.UnitParts.{Opened}
use Rattle.compiler.specs.Measuring.{Placed}
use Rattle.compiler.specs.ObjectWriting.{ObjectWritten}
use Rattle.compiler.specs.declared.layout.Layout.{Layout}

-- the row s is opened as the layout's view, and its procedures are placed
pub record LaidOut (s : List ℕ) (l : Layout) : Type 0 where
  pub opened : Opened s l.view
  pub placed : Placed l.view.count l.view.procs.now l.arities.now l.starts.now

-- some row is laid out so, and words are lent for its code and fits, and for its object
pub record Compilable (l : Layout) (work object : ℕ) : Type 0 where
  pub row : List ℕ
  pub laid_out : LaidOut row l
  pub for_work : 16 * length row ≤ work
  pub for_object : 256 + 32 * length row ≤ object

-- the row s says a unit, whose object is written
pub record UnitWritten (s old new : List ℕ) (n : ℕ) : Type 0 where
  pub unit : SourceUnit
  pub row : UnitRow s unit
  pub written : ObjectWritten unit old new n

-- whichever row is laid out so, it says a unit, and what is written is its object; or it says none
abbrev pub UnitSays : Layout → List ℕ → List ℕ → Option ℕ → Type 0
UnitSays l old new None = (new ≡ old) × ((s : List ℕ) → LaidOut s l → (u : SourceUnit) → UnitRow s u → ⊥)
UnitSays l old new (Some n) = (s : List ℕ) → LaidOut s l → UnitWritten s old new n
