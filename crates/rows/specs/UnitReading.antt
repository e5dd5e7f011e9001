-- Reading a unit off its row, and what the reader promises.
use Rattle.std.specs.Prelude.{◌≡◌, ℕ, ◌<◌, ◌≤◌, List, ◌++◌, map, length, drop, Ok, Err, Result}
use Rattle.rows.specs.Units.{SourceUnit}
use Rattle.rows.specs.UnitRows.{UnitRow}
use Rattle.rows.specs.UnitViews.{ViewOf}
use Rattle.rows.specs.declared.units.UnitView.{UnitView}
use Rattle.rows.specs.declared.units.Refusal.{Refusal}
use Rattle.rows.specs.declared.units.Refusal.TheVariants.{NoUnit, Short}

-- the row says the unit u, which v shows; how many arguments its procedures take stands first in the lent words, and the rest is as it was
pub record Shown (row old new : List ℕ) (v : UnitView) (u : SourceUnit) : Type 0 where
  pub enough : 256 ≤ length old
  pub unit : UnitRow row u
  pub view : ViewOf v u
  pub arities : new ≡ map (λ p. p.args) u.procs ++ drop (length u.procs) old

-- what the reader of a unit gives; old and new: the lent words before and after
abbrev pub ReadSays : List ℕ → List ℕ → List ℕ → Result UnitView Refusal → Type 0
ReadSays row old new (Ok v) = (u : SourceUnit) × Shown row old new v u
ReadSays row old new (Err NoUnit) = (256 ≤ length old) × ((u : SourceUnit) → UnitRow row u → ⊥) × (drop 256 new ≡ drop 256 old)
ReadSays row old new (Err Short) = (length old < 256) × (new ≡ old)

-- a row says at most one unit
abbrev pub OneUnit : Type 0
OneUnit = (s : List ℕ) (u v : SourceUnit) → UnitRow s u → UnitRow s v → u ≡ v
