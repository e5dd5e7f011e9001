-- From units to what a run puts out: units that are compiled one by one, whose objects' rows stand one behind the other, are run by `run_linked` as
-- the units do by the definition of their language.
use Rattle.std.specs.Prelude.{◌≡◌, ℕ, ◌≤◌, List, [], ◌∷◌, map, length, Some, Result}
use Rattle.rows.specs.Units.{SourceUnit}
use Rattle.rows.specs.UnitRows.{UnitRow}
use Rattle.rows.specs.Objects.{Object}
use Rattle.rows.specs.ObjectRows.{row_objects}
use Rattle.machine.specs.declared.Ran.{Ran}
use Rattle.semantics.specs.Runs.{source}
use Rattle.semantics.specs.Whole.{FitTogether, Behaviour, behaviour}
use Rattle.semantics.specs.RunLinked.{Inputs, AsUnits, RunLinkedPost}
use Rattle.semantics.specs.declared.linked.RunError.{RunError}
use Rattle.compiler.specs.Code.{object}

-- each unit is said by some row, so that it can be compiled
abbrev pub EachSaid : List SourceUnit → Type 0
EachSaid [] = Unit {0}
EachSaid (u ∷ us) = ((s : List ℕ) × UnitRow s u) × EachSaid us

abbrev pub objects : List SourceUnit → List Object
objects us = map object us

-- at most as many units, and words of their objects' rows, as a linker takes
pub record FewEnough (us : List SourceUnit) : Type 0 where
  pub units : length us ≤ 256
  pub words : length (row_objects (objects us)) ≤ 16777216

-- whatever `run_linked` answers on these objects is what the units do; b: how they end, and what they have put out
abbrev pub CompiledRuns : Type 0
CompiledRuns = (us : List SourceUnit) → EachSaid us → FitTogether us → FewEnough us →
    (x : Inputs) (i o : List ℕ) (r : Result Ran RunError) → x.objects ≡ row_objects (objects us) → RunLinkedPost x i o r →
    (b : Behaviour) × (behaviour (source us x.room x.tape x.calls) ≡ Some b) × AsUnits x (objects us) b o r
