-- What `run_linked` promises: objects of units that fit together, whoever made them, are linked and run as the units do.
use Rattle.std.specs.Prelude.{◌≡◌, ℕ, ◌+◌, ◌^◌, ◌<◌, ◌≤◌, ◌↔◌, List, length, take, drop, Some, Ok, Err, Result}
use Rattle.rows.specs.Units.{SourceUnit}
use Rattle.rows.specs.Objects.{Object}
use Rattle.rows.specs.ObjectRows.{ObjectRows}
use Rattle.machine.specs.declared.Ran.{Ran}
use Rattle.machine.specs.declared.NotRun.{NotRun}
use Rattle.machine.specs.declared.NotRun.TheVariants.{OutFull, Small}
use Rattle.machine.specs.declared.ending.Status.{Status}
use Rattle.machine.specs.declared.ending.Status.TheVariants.{Running, Done, NoCalls, NoRoom, Wild}
use Rattle.machine.specs.Says.{RanPost}
use Rattle.linker.specs.declared.NotLinked.{NotLinked}
use Rattle.linker.specs.declared.NotLinked.TheVariants.{NoObjects, Twice, Missing, NoSpace}
use Rattle.linker.specs.Linking.{all_words}
use Rattle.linker.specs.Says.{LinkedSays}
use Rattle.semantics.specs.declared.linked.RunError.{RunError}
use Rattle.semantics.specs.declared.linked.RunError.TheVariants.{Link, Run}
use Rattle.semantics.specs.Runs.{source}
use Rattle.semantics.specs.Whole.{FitTogether, Behaviour, done, without_calls, without_room, behaviour}
use Rattle.semantics.specs.Ends.{Ends}
use Rattle.semantics.specs.Budgets.{Begins, put_out, BudgetsExact}
use Rattle.semantics.specs.Company.{CompanyDoesNotMatter}
use Rattle.semantics.specs.Theorems.{ObjectsOf, Demands}

-- what a call of `run_linked` is given: the row of objects, the budgets and the tape; the words lent for the image and for what is put out,
-- as they are before; and how many work words there are
pub record Inputs : Type 0 where
  pub objects : List ℕ
  pub room : ℕ
  pub tape : List ℕ
  pub calls : ℕ
  pub steps : ℕ
  pub image : List ℕ
  pub out : List ℕ
  pub work : ℕ

-- the machine's answer, as `run_linked` gives it
abbrev pub ran_answer : Result Ran NotRun → Result Ran RunError
ran_answer (Ok r) = Ok r
ran_answer (Err e) = Err (Run e)

-- the objects were linked to an image, which stands first in i, and the machine ran it so; i and o: the words for the image and out afterwards
pub record RanImage (x : Inputs) (i o : List ℕ) (r : Result Ran NotRun) : Type 0 where
  pub size : ℕ
  pub words : ℕ
  pub links : LinkedSays x.objects x.image i (Ok (record { size = size; words = words }))
  pub ran : RanPost (take size i) words x.room x.tape x.calls x.steps x.out o x.work r

-- the linker refused the objects, and nothing was put out
pub record Refused (x : Inputs) (i o : List ℕ) (e : NotLinked) : Type 0 where
  pub links : LinkedSays x.objects x.image i (Err e)
  pub kept : o ≡ x.out

-- the answer is that of the machine on the linked image, or that of the linker
abbrev pub RunSays : Inputs → List ℕ → List ℕ → Result Ran RunError → Type 0
RunSays x i o (Ok r) = RanImage x i o (Ok r)
RunSays x i o (Err (Run e)) = RanImage x i o (Err e)
RunSays x i o (Err (Link e)) = Refused x i o e

-- n words were put out, ws: they stand first in o', and the rest of o is as it was
pub record PutFirst (o o' ws : List ℕ) (n : ℕ) : Type 0 where
  pub counts : n ≡ length ws
  pub holds : take n o' ≡ ws
  pub rest : drop n o' ≡ drop n o

-- the units end so, and these are the words that they put out
abbrev pub Ended : (List ℕ → Behaviour) → Behaviour → List ℕ → List ℕ → ℕ → Type 0
Ended how b o o' n = (ws : List ℕ) × (b ≡ how ws) × PutFirst o o' ws n

-- how a run that stands so, with n words put out, is to the units' behaviour b
abbrev pub StandsAsUnits : Inputs → Behaviour → List ℕ → Status → ℕ → Type 0
-- a run that ended within its steps ended as the units do, with the same words put out
StandsAsUnits x b o Done n = Ended done b x.out o n
StandsAsUnits x b o NoCalls n = Ended without_calls b x.out o n
StandsAsUnits x b o NoRoom n = Ended without_room b x.out o n
-- it is never wild
StandsAsUnits x b o Wild n = ⊥
-- one that had too few steps has put out a beginning of what the units put out
StandsAsUnits x b o Running n = (ws : List ℕ) × Begins ws (put_out b) × PutFirst x.out o ws n

-- how the machine's answer is to it
abbrev pub RanAsUnits : Inputs → List Object → Behaviour → List ℕ → Result Ran NotRun → Type 0
RanAsUnits x os b o (Ok r) = StandsAsUnits x b o r.status r.put
-- out is full only if the units put out more words than it holds
RanAsUnits x os b o (Err OutFull) = length x.out < length (put_out b)
-- the work words are too few only for the units' words and the room
RanAsUnits x os b o (Err Small) = x.work < all_words os + x.room

-- how the answer stands to the units' behaviour. A memory has at most 2^32 words; with 256 units of 4,096 words and a room just below 2^32
-- words and room together could be more, and of such a run nothing is promised
abbrev pub AsUnits : Inputs → List Object → Behaviour → List ℕ → Result Ran RunError → Type 0
AsUnits x os b o (Ok r) = all_words os + x.room ≤ 2 ^ 32 → RanAsUnits x os b o (Ok r)
AsUnits x os b o (Err (Run e)) = all_words os + x.room ≤ 2 ^ 32 → RanAsUnits x os b o (Err e)
-- the objects always link, if there is space for the image
AsUnits x os b o (Err (Link NoObjects)) = ⊥
AsUnits x os b o (Err (Link Twice)) = ⊥
AsUnits x os b o (Err (Link Missing)) = ⊥
AsUnits x os b o (Err (Link NoSpace)) = length x.image < 4 + length x.objects

-- whenever the row says objects of units that fit together, the answer is what the units do
abbrev pub Promised : Inputs → List ℕ → Result Ran RunError → Type 0
Promised x o r = (us : List SourceUnit) (os : List Object) → ObjectRows x.objects os → ObjectsOf us os → FitTogether us →
    (b : Behaviour) × (behaviour (source us x.room x.tape x.calls) ≡ Some b) × AsUnits x os b o r

-- and from some number of steps on, which depends on the objects, the budgets and the tape alone, a run is not cut short
abbrev pub EnoughSteps : Type 0
EnoughSteps = (s : List ℕ) (us : List SourceUnit) (os : List Object) → ObjectRows s os → ObjectsOf us os → FitTogether us →
    (room calls : ℕ) (tape : List ℕ) → room < 2 ^ 32 → all_words os + room ≤ 2 ^ 32 →
    (n : ℕ) × ((steps : ℕ) (image out : List ℕ) (work : ℕ) (i o : List ℕ) (k : ℕ) → n ≤ steps →
    RunSays (record { objects = s; room = room; tape = tape; calls = calls; steps = steps; image = image; out = out; work = work }) i o (Ok (record { status = Running; put = k })) → ⊥)

-- all that is promised of a call: what it answers, and why that is what the units do
pub record RunLinkedPost (x : Inputs) (i o : List ℕ) (r : Result Ran RunError) : Type 0 where
  pub says : RunSays x i o r
  pub space : (length x.image < 4 + length x.objects) ↔ (r ≡ Err (Link NoSpace))
  pub promise : Promised x o r
  pub enough_steps : EnoughSteps
  pub demands : Demands
  pub ends : Ends
  pub budgets : BudgetsExact
  pub company : CompanyDoesNotMatter
