-- What more room or more calls change: nothing but how far a run gets. This holds of any units, whether or not they fit together.
use Rattle.std.specs.Prelude.{◌≡◌, ℕ, ◌<◌, ◌≤◌, List, ◌++◌, Some}
use Rattle.rows.specs.Units.{SourceUnit}
use Rattle.semantics.specs.Runs.{source}
use Rattle.semantics.specs.Whole.{Behaviour, done, without_calls, without_room, behaviour}

-- ws is a beginning of ws'
abbrev pub Begins : List ℕ → List ℕ → Type 0
Begins ws ws' = (rest : List ℕ) × (ws' ≡ ws ++ rest)

-- the words that a run has put out, however it ended
abbrev pub put_out : Behaviour → List ℕ
put_out (done ws) = ws
put_out (without_calls ws) = ws
put_out (without_room ws) = ws

-- a run that did not end for want of calls
abbrev pub EnoughCalls : Behaviour → Type 0
EnoughCalls (done ws) = Unit {0}
EnoughCalls (without_calls ws) = ⊥
EnoughCalls (without_room ws) = Unit {0}

-- a run that did not end for want of room
abbrev pub EnoughRoom : Behaviour → Type 0
EnoughRoom (done ws) = Unit {0}
EnoughRoom (without_calls ws) = Unit {0}
EnoughRoom (without_room ws) = ⊥

-- a run that had enough calls ends the same with any larger number of calls, in the same room
abbrev pub MoreCalls : Type 0
MoreCalls = (us : List SourceUnit) (room : ℕ) (tape : List ℕ) (calls calls' : ℕ) → calls ≤ calls' → (b : Behaviour) → EnoughCalls b →
    behaviour (source us room tape calls) ≡ Some b → behaviour (source us room tape calls') ≡ Some b

-- a run that had enough room ends the same in any larger room, with the same number of calls
abbrev pub MoreRoom : Type 0
MoreRoom = (us : List SourceUnit) (calls : ℕ) (tape : List ℕ) (room room' : ℕ) → room ≤ room' → (b : Behaviour) → EnoughRoom b →
    behaviour (source us room tape calls) ≡ Some b → behaviour (source us room' tape calls) ≡ Some b

-- a run that is done is done the same with more of both
abbrev pub StaysDone : Type 0
StaysDone = (us : List SourceUnit) (tape : List ℕ) (room room' calls calls' : ℕ) → room ≤ room' → calls ≤ calls' → (ws : List ℕ) →
    behaviour (source us room tape calls) ≡ Some (done ws) → behaviour (source us room' tape calls') ≡ Some (done ws)

-- however a run ends, what it has put out is a beginning of what it puts out with more of both
abbrev pub GoesFurther : Type 0
GoesFurther = (us : List SourceUnit) (tape : List ℕ) (room room' calls calls' : ℕ) → room ≤ room' → calls ≤ calls' → (b b' : Behaviour) →
    behaviour (source us room tape calls) ≡ Some b → behaviour (source us room' tape calls') ≡ Some b' → Begins (put_out b) (put_out b')

-- where some number of calls is enough, one number is the least: with it or more the run ends the same, with fewer it ends for want of calls
abbrev pub LeastCalls : Type 0
LeastCalls = (us : List SourceUnit) (room : ℕ) (tape : List ℕ) (calls : ℕ) (b : Behaviour) → EnoughCalls b → behaviour (source us room tape calls) ≡ Some b →
    (least : ℕ)
    × ((c : ℕ) → least ≤ c → behaviour (source us room tape c) ≡ Some b)
    × ((c : ℕ) → c < least → (ws : List ℕ) × (behaviour (source us room tape c) ≡ Some (without_calls ws)))

-- and so with room
abbrev pub LeastRoom : Type 0
LeastRoom = (us : List SourceUnit) (calls : ℕ) (tape : List ℕ) (room : ℕ) (b : Behaviour) → EnoughRoom b → behaviour (source us room tape calls) ≡ Some b →
    (least : ℕ)
    × ((r : ℕ) → least ≤ r → behaviour (source us r tape calls) ≡ Some b)
    × ((r : ℕ) → r < least → (ws : List ℕ) × (behaviour (source us r tape calls) ≡ Some (without_room ws)))

pub record BudgetsExact : Type 0 where
  pub more_calls : MoreCalls
  pub more_room : MoreRoom
  pub stays_done : StaysDone
  pub goes_further : GoesFurther
  pub least_calls : LeastCalls
  pub least_room : LeastRoom
