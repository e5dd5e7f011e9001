-- The parts of a unit's row, each checked by itself: the cut by the counts, the numbers of arguments, the bodies.
use Rattle.std.specs.Prelude.{◌≡◌, ℕ, ◌≤◌, Bool, true, false, List, ◌∷◌, ◌++◌, map, length, Some, None, Ok, Err, Option, Result}
use Rattle.std.specs.List.{AllByRecursion, flat_map}
use Rattle.rows.specs.Units.{Proc, SourceUnit}
use Rattle.rows.specs.UnitRows.{row_wants, row_procs, small_wants, all_below, UnitRow}
use Rattle.rows.specs.ObjectViews.{wants_in}
use Rattle.rows.specs.Bodies.{Right}
use Rattle.rows.specs.declared.units.UnitView.{UnitView}
use Rattle.rows.specs.declared.units.Refusal.{Refusal}
use Rattle.rows.specs.declared.units.Refusal.TheVariants.{NoUnit, Short}

-- the row is cut into the parts of v, whose sizes are within the limits
pub record Cut (row : List ℕ) (v : UnitView) : Type 0 where
  pub whole : row_wants (wants_in v.wants.now) ≡ flat_map (λ words. words) v.wants.now
  pub parts : row ≡ v.name ∷ v.words ∷ length (wants_in v.wants.now) ∷ v.count ∷ length v.offers.now ∷ (row_wants (wants_in v.wants.now) ++ (v.procs.now ++ v.offers.now))
  pub short : length row ≤ 65536
  pub words : v.words ≤ 4096
  pub wants : length (wants_in v.wants.now) ≤ 256
  pub procs : v.count ≤ 256

-- a row that cannot be cut says no unit
abbrev pub CutSays : List ℕ → Option UnitView → Type 0
CutSays row None = (u : SourceUnit) → UnitRow row u → ⊥
CutSays row (Some v) = Cut row v

-- the row is cut so, its wants take few enough arguments, and what it offers is there
pub record Opened (row : List ℕ) (v : UnitView) : Type 0 where
  pub cut : Cut row v
  pub wants : small_wants (wants_in v.wants.now) ≡ true
  pub offers : all_below v.count v.offers.now ≡ true

abbrev pub OpenSays : List ℕ → Option UnitView → Type 0
OpenSays row None = (u : SourceUnit) → UnitRow row u → ⊥
OpenSays row (Some v) = Opened row v

-- a row says the procedures ps, n of them, each as it should be
pub record Procedures (Ok : Proc → Type 0) (n : ℕ) (row : List ℕ) (ps : List Proc) : Type 0 where
  pub count : length ps ≡ n
  pub says : row_procs ps ≡ row
  pub each : AllByRecursion Ok ps

-- a procedure with few enough arguments; one whose body is well formed in u and not too deep
abbrev pub FewArgs : Proc → Type 0
FewArgs p = p.args ≤ 8

abbrev pub BodyRight : SourceUnit → Proc → Type 0
BodyRight u p = Right u p.args 256 p.body

-- what a reader of arities gives: whether the row says n procedures with few enough arguments, and then how many arguments each of them takes
abbrev pub AritySays : ℕ → List ℕ → List ℕ → Bool → Type 0
AritySays n row arities true = (ps : List Proc) × Procedures FewArgs n row ps × (map (λ p. p.args) ps ≡ arities)
AritySays n row arities false = (ps : List Proc) → Procedures FewArgs n row ps → ⊥

-- the row says n procedures whose bodies are right in u
abbrev pub BodiesRight : SourceUnit → ℕ → List ℕ → Type 0
BodiesRight u n row = (ps : List Proc) × Procedures (BodyRight u) n row ps

-- a part that finds what it looks for, or says that there is no unit where it isn't so; never that words are short
abbrev pub OrNoUnit : Type 0 → Type 0 → Result (Unit {0}) Refusal → Type 0
OrNoUnit so not (Ok _) = so
OrNoUnit so not (Err NoUnit) = not
OrNoUnit so not (Err Short) = ⊥
