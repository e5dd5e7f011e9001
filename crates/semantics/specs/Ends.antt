-- Every program ends in one of three ways: done, without calls or without room. It is never in the bad state, in which a callee is missing.
use Rattle.std.specs.Prelude.{◌≡◌, ℕ, ◌<◌, List, Some}
use Rattle.rows.specs.Units.{SourceUnit}
use Rattle.semantics.specs.Runs.{State, Target, run, source}
use Rattle.semantics.specs.Whole.{FitTogether, Behaviour, behaviour}

-- units that fit together, on any tape, with any room and number of calls, have a behaviour; a behaviour is one of the three
abbrev pub Ends : Type 0
Ends = (us : List SourceUnit) (room calls : ℕ) (tape : List ℕ) → FitTogether us → (b : Behaviour) × (behaviour (source us room tape calls) ≡ Some b)

-- in the definition of a run the depth is there only so that it ends: above the calls left any depth gives the same, on any units
abbrev pub DepthBoundsNothing : Type 0
DepthBoundsNothing = (us : List SourceUnit) (room : ℕ) (t : Target) (vs : List ℕ) (s : State) (d d' : ℕ) → s.left < d → s.left < d' →
    run d us room t vs s ≡ run d' us room t vs s
