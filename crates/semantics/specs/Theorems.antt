-- What follows from the relation of a unit and its object, whoever made the objects.
use Rattle.std.specs.Prelude.{◌≡◌, ℕ, suc, ◌+◌, ◌^◌, ◌<◌, ◌≤◌, Bool, false, T, ◌≢◌, List, [], ◌∷◌, length, take, drop, is_some, Some, slice_index, slice_index_or}
use Rattle.rows.specs.Units.{SourceUnit}
use Rattle.rows.specs.Objects.{Object}
use Rattle.machine.specs.Machine.{Machine, begin, at}
use Rattle.machine.specs.Instructions.{steps}
use Rattle.linker.specs.Linking.{offered, link, all_words, twice}
use Rattle.semantics.specs.Runs.{State, value, word_at, source}
use Rattle.semantics.specs.Whole.{names, distinct, offers_proc, starts, all_met, FitTogether, Behaviour, behaviour, machine_behaviour}
use Rattle.semantics.specs.Company.{In}
use Rattle.semantics.specs.Relation.{total, Imports, run_unit, CallSite, Entered, Returned, Placed, WantsDo, ObjectOf}

-- os are objects of the units us, one for each, in the same order
pub data ObjectsOf : List SourceUnit → List Object → Type 0 where
  none : ObjectsOf [] []
  more : {u : SourceUnit} {o : Object} {us : List SourceUnit} {os : List Object} → ObjectOf u o → ObjectsOf us os → ObjectsOf (u ∷ us) (o ∷ os)

-- the object says of itself what its unit says: its name, its words, its wants, and what it offers with how many arguments
pub record Says (u : SourceUnit) (o : Object) : Type 0 where
  pub name : o.name ≡ u.name
  pub words : o.words ≡ u.words
  pub wants : o.wants ≡ u.wants
  pub offers : (p k : ℕ) → is_some (offered p k o.offers) ≡ offers_proc u p k

abbrev pub SaysTheSame : Type 0
SaysTheSame = (u : SourceUnit) (o : Object) → ObjectOf u o → Says u o

-- objects of units that fit together link, and no name stands twice
abbrev pub Links : Type 0
Links = (us : List SourceUnit) (os : List Object) → ObjectsOf us os → FitTogether us → (image : List ℕ) × (link os ≡ Some image) × (twice os ≡ false)

-- and where objects of units link, each want is met by a unit that offers it with as many arguments, and the first unit can be started;
-- where no object's name stands twice, no unit's does
pub record Linkable (us : List SourceUnit) : Type 0 where
  pub apart : T (distinct (names us))
  pub starts : T (starts us)
  pub met : T (all_met us us)

abbrev pub LinksOnly : Type 0
LinksOnly = (us : List SourceUnit) (os : List Object) (image : List ℕ) → ObjectsOf us os → link os ≡ Some image → twice os ≡ false → Linkable us

-- the image that objects of units are linked to does what the units do: it ends in the same way, and has put out the same words.
-- For any tape and number of calls, and for any room that is a word and fits the memory with the units' words
abbrev pub LinkedRuns : Type 0
LinkedRuns = (us : List SourceUnit) (os : List Object) (image : List ℕ) → ObjectsOf us os → FitTogether us → link os ≡ Some image → length image < 2 ^ 32 →
    (room calls : ℕ) (tape : List ℕ) → room < 2 ^ 32 → all_words os + room ≤ 2 ^ 32 →
    (n : ℕ) × (b : Behaviour) × (behaviour (source us room tape calls) ≡ Some b) × (machine_behaviour (steps n image (begin (all_words os) room tape calls)) ≡ Some b)

-- calls of the unit's wants, which do what x says, leave word b of unit j as it is, up to d deep
abbrev pub WantsLeave : SourceUnit → ℕ → Imports → ℕ → ℕ → Type 0
WantsLeave u d x j b = (e n room : ℕ) (vs : List ℕ) (s : State) (v : ℕ) (s' : State) → e ≤ d → n < length u.wants → x e n room vs s ≡ value v s' →
    word_at s'.words j b ≡ word_at s.words j b

-- an object leaves the words of other units as they are, but for calls. Wherever it is placed, as number i: a call of what it offers that returns
-- leaves word b of unit j, which is another, as long as calls of its wants do. In memory that word lies b behind the words of the units before j
abbrev pub LeavesOthersAlone : Type 0
LeavesOthersAlone = (u : SourceUnit) (o : Object) → ObjectOf u o →
    (code shape : List ℕ) (i c : ℕ) (ps : List ℕ) (d : ℕ) (x : Imports) → Placed u o code shape i c ps → WantsDo u code shape d ps x →
    (j b : ℕ) → j ≢ i → b < slice_index shape j → WantsLeave u d x j b →
    (p k a : ℕ) → offered p k o.offers ≡ Some a →
    (site : CallSite) (room : ℕ) (vs : List ℕ) (s : State) (m : Machine) → length vs ≡ k → s.left ≤ d → Entered shape (c + a) site room vs s m →
    (v : ℕ) (s' : State) → run_unit (suc d) u i x p room vs s ≡ value v s' →
    (n : ℕ) × Returned shape site v s' m (steps n code m) × (at (steps n code m) (total (take j shape) + b) ≡ at m (total (take j shape) + b))

-- what linking asks of units is all that it takes: units that fit together are linkable, and that bodies are well formed is no part of it
abbrev pub LinksIfLinkable : Type 0
LinksIfLinkable = (us : List SourceUnit) (os : List Object) → ObjectsOf us os → Linkable us → (image : List ℕ) × (link os ≡ Some image) × (twice os ≡ false)

-- calls of the unit's wants, which do what x says, keep what P says of unit j's words, up to d deep
abbrev pub WantsKeep : SourceUnit → ℕ → Imports → ℕ → (List ℕ → Bool) → Type 0
WantsKeep u d x j P = (e n room : ℕ) (vs : List ℕ) (s : State) (v : ℕ) (s' : State) → e ≤ d → n < length u.wants → x e n room vs s ≡ value v s' →
    T (P (slice_index_or s.words j [])) → T (P (slice_index_or s'.words j []))

-- unit j's words, as they lie in memory behind those of the units before it
abbrev pub words_in : List ℕ → ℕ → Machine → List ℕ
words_in shape j m = take (slice_index shape j) (drop (total (take j shape)) m.memory)

-- more than `LeavesOthersAlone`: a call of what an object offers keeps any property P of the words of unit j, which is another, that calls of its
-- wants keep, such as that a word is 5, or that the words are these. It speaks of calls that return, and of the words when they return
abbrev pub KeepsOthers : Type 0
KeepsOthers = (u : SourceUnit) (o : Object) → ObjectOf u o →
    (code shape : List ℕ) (i c : ℕ) (ps : List ℕ) (d : ℕ) (x : Imports) → Placed u o code shape i c ps → WantsDo u code shape d ps x →
    (j : ℕ) (P : List ℕ → Bool) → j ≢ i → WantsKeep u d x j P →
    (p k a : ℕ) → offered p k o.offers ≡ Some a →
    (site : CallSite) (room : ℕ) (vs : List ℕ) (s : State) (m : Machine) → length vs ≡ k → s.left ≤ d → Entered shape (c + a) site room vs s m →
    (v : ℕ) (s' : State) → run_unit (suc d) u i x p room vs s ≡ value v s' →
    (n : ℕ) × Returned shape site v s' m (steps n code m)
    × (T (P (slice_index_or s.words j [])) → T (P (slice_index_or s'.words j [])))
    × (T (P (words_in shape j m)) → T (P (words_in shape j (steps n code m))))

-- a machine on its code ends in one way only, whenever one looks
abbrev pub EndsOnce : Type 0
EndsOnce = (code : List ℕ) (m : Machine) (n n' : ℕ) (b b' : Behaviour) → machine_behaviour (steps n code m) ≡ Some b → machine_behaviour (steps n' code m) ≡ Some b' → b ≡ b'

-- two images, run on the same tape with the same room and calls, end in the same way, having put out the same words
abbrev pub EndAlike : List ℕ → ℕ → List ℕ → ℕ → ℕ → ℕ → List ℕ → Type 0
EndAlike image words image' words' room calls tape = (n n' : ℕ) × (b : Behaviour) ×
    (machine_behaviour (steps n image (begin words room tape calls)) ≡ Some b) × (machine_behaviour (steps n' image' (begin words' room tape calls)) ≡ Some b)

-- what a linked image puts out and how it ends depends neither on the order of the objects behind the first, nor on what else is linked, nor on who made them:
-- if os are objects of u and us, qs of u and vs, and every unit of us is one of vs, their images end alike
abbrev pub ImageCompany : Type 0
ImageCompany = (u : SourceUnit) (us vs : List SourceUnit) (os qs : List Object) (image image' : List ℕ) → ObjectsOf (u ∷ us) os → ObjectsOf (u ∷ vs) qs →
    FitTogether (u ∷ us) → FitTogether (u ∷ vs) → ((w : SourceUnit) → In w us → In w vs) →
    link os ≡ Some image → link qs ≡ Some image' → length image < 2 ^ 32 → length image' < 2 ^ 32 →
    (room calls : ℕ) (tape : List ℕ) → room < 2 ^ 32 → all_words os + room ≤ 2 ^ 32 → all_words qs + room ≤ 2 ^ 32 →
    EndAlike image (all_words os) image' (all_words qs) room calls tape

-- what is promised of objects and of what they are linked to
pub record Demands : Type 0 where
  pub says : SaysTheSame
  pub links : Links
  pub links_only : LinksOnly
  pub runs : LinkedRuns
  pub ends_once : EndsOnce
  pub leaves_others_alone : LeavesOthersAlone
  pub company : ImageCompany
