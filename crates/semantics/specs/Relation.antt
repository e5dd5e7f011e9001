-- An object of a unit: the one relation that a compiler has to show and that everything else follows from.
-- It says what is seen from outside when a procedure is called, and nothing of how the code was made.
use Rattle.std.specs.Prelude.{◌≡◌, ℕ, zero, suc, ◌+◌, ◌-◌, ◌^◌, ◌<◌, ◌≤◌, cond, T, List, [], ◌∷◌, ◌++◌, length, take, drop, Some, nat_lt, slice_index}
use Rattle.std.specs.List.{slice_get}
use Rattle.rows.specs.Units.{Want, SourceUnit}
use Rattle.rows.specs.Objects.{Object}
use Rattle.rows.specs.ObjectRows.{sound}
use Rattle.machine.specs.Machine.{Machine, at}
use Rattle.machine.specs.Instructions.{steps}
use Rattle.linker.specs.Linking.{offered, fit_all}
use Rattle.semantics.specs.Runs.{State, Result, value, no_room, no_calls, bad, eval, spend, enter}
use Rattle.semantics.specs.Whole.{offers_proc}

-- the units' words one unit after the other, as they lie at the front of memory
abbrev pub flat : List (List ℕ) → List ℕ
flat [] = []
flat (w ∷ ws) = w ++ flat ws

-- shape: how many words each unit has
abbrev pub sizes : List (List ℕ) → List ℕ
sizes [] = []
sizes (w ∷ ws) = length w ∷ sizes ws

abbrev pub total : List ℕ → ℕ
total [] = 0
total (n ∷ ns) = n + total ns

-- what calls of a unit's wants do: at most so many calls deep, of which want, with how much room, on which values
abbrev pub Imports : Type 0
Imports = ℕ → ℕ → ℕ → List ℕ → State → Result

-- what procedure p of u does on its own, its wants doing x; u's words are the i-th of the state
abbrev pub run_unit : ℕ → SourceUnit → ℕ → Imports → ℕ → ℕ → List ℕ → State → Result
run_unit zero u i x p room vs s = no_calls s
run_unit (suc d) u i x p room vs s =
    spend s.left s (λ r. enter (slice_get u.procs p) room
    (λ q free. eval (λ c ws t. cond (nat_lt c (length u.wants)) (x d c free ws t) (run_unit d u i x (c - length u.wants) free ws t)) i vs q.body r) r)

-- a machine that still runs holds a program's state
pub record Represents (shape : List ℕ) (s : State) (m : Machine) : Type 0 where
  -- each unit has the words that were laid for it, and they lie at the front of memory, one unit's behind the other's
  pub sized : sizes s.words ≡ shape
  pub words : take (total shape) m.memory ≡ flat s.words
  -- what can be taken, what was put out and the calls left are the program's
  pub tape : m.tape ≡ s.tape
  pub outs : m.outs ≡ s.outs
  pub left : m.left ≡ s.left
  pub running : m.halted ≡ 0

-- a call, from outside: where its arguments lie, the place that it returns to, and the caller's fp
pub record CallSite : Type 0 where
  pub base : ℕ
  pub back : ℕ
  pub fp : ℕ

-- place a has just been called, with the values vs at the call's base and this much room
pub record Entered (shape : List ℕ) (a : ℕ) (site : CallSite) (room : ℕ) (vs : List ℕ) (s : State) (m : Machine) : Type 0 where
  pub represents : Represents shape s m
  -- control is at the callee, and the stack ends behind the two words that a call pushes
  pub pc : m.pc ≡ a
  pub sp : m.sp ≡ site.base + (length vs + 2)
  -- the machine counts the room that the definition counts; it is a word
  pub free : m.free ≡ room
  pub room_word : room < 2 ^ 32
  -- the stack lies above the units' words, and what the room counts is there
  pub above : total shape ≤ site.base
  pub fits : site.base + room ≤ length m.memory
  -- every place in memory is a word, so that a return place and an fp can be kept there
  pub addressable : length m.memory ≤ 2 ^ 32
  -- the caller counts the arguments as the callee does, from the base on
  pub arguments : (j : ℕ) → j < length vs → at m (site.base + j) ≡ slice_index vs j
  -- behind the arguments lie the return place and the caller's fp, unless the memory ends before; there is no room for a frame then
  pub return : site.base + (length vs + 1) < length m.memory → (at m (site.base + length vs) ≡ site.back) × (at m (site.base + (length vs + 1)) ≡ site.fp)

-- the call has returned v, with the state s, and the stack below it is as it was
pub record Returned (shape : List ℕ) (site : CallSite) (v : ℕ) (s : State) (m m' : Machine) : Type 0 where
  pub represents : Represents shape s m'
  -- control is back at the caller, with its own frame
  pub pc : m'.pc ≡ site.back
  pub fp : m'.fp ≡ site.fp
  -- the value lies where the arguments began, and nothing is left above it
  pub sp : m'.sp ≡ site.base + 1
  pub value : at m' site.base ≡ v
  -- the frame was given back
  pub free : m'.free ≡ m.free
  pub memory : length m'.memory ≡ length m.memory
  -- temporaries of the caller are not lost over the call
  pub below : (j : ℕ) → total shape ≤ j → j < site.base → at m' j ≡ at m j

-- the machine halts so, having put out these words
abbrev pub Halts : List ℕ → ℕ → List ℕ → Machine → Type 0
Halts code h outs m = (n : ℕ) × ((steps n code m).halted ≡ h) × ((steps n code m).outs ≡ outs)

-- what comes of a machine in which a call has been entered, if the call's result is to be this; no call gains calls.
-- The bad state promises nothing: units that fit together never come to it.
abbrev pub Outcome : List ℕ → List ℕ → CallSite → ℕ → Machine → Result → Type 0
Outcome code shape site left m (value v s) = (n : ℕ) × (s.left ≤ left) × Returned shape site v s m (steps n code m)
Outcome code shape site left m (no_room s) = Halts code 3 s.outs m
Outcome code shape site left m (no_calls s) = Halts code 2 s.outs m
Outcome code shape site left m bad = Unit {0}

-- calls of place a with k arguments do what f says, as long as fewer than d calls are left
abbrev pub Simulates : List ℕ → List ℕ → ℕ → ℕ → ℕ → (ℕ → List ℕ → State → Result) → Type 0
Simulates code shape d a k f =
    (site : CallSite) (room : ℕ) (vs : List ℕ) (s : State) (m : Machine) → length vs ≡ k → s.left < d → Entered shape a site room vs s m →
    Outcome code shape site s.left m (f room vs s)

-- the object's code lies at c in the code, its words are the i-th of the shape, and ps are the places of its wants
pub record Placed (u : SourceUnit) (o : Object) (code shape : List ℕ) (i c : ℕ) (ps : List ℕ) : Type 0 where
  -- every place in the code is a word, so that a return place can be kept
  pub addressable : length code < 2 ^ 32
  pub words : slice_get shape i ≡ Some u.words
  -- every fit was done: jumps and words were moved, wants were filled in, and no other word was touched
  pub lies : take (length o.code) (drop c code) ≡ fit_all (record { object = o; code_at = c; words_at = total (take i shape) }) ps o.fits o.code

-- as long as calls of the unit's wants, at the places ps, do what x says
abbrev pub WantsDo : SourceUnit → List ℕ → List ℕ → ℕ → List ℕ → Imports → Type 0
WantsDo u code shape d ps x = (e n : ℕ) (w : Want) → e ≤ d → slice_get u.wants n ≡ Some w → Simulates code shape e (slice_index ps n) w.args (x e n)

-- wherever the object's code and words come to lie, and whatever its wants are met by: as long as calls of its wants do what they should,
-- calls of what it offers do what the unit's procedures do
abbrev pub SimulatesUnit : SourceUnit → Object → Type 0
SimulatesUnit u o = (code shape : List ℕ) (i c : ℕ) (ps : List ℕ) (d : ℕ) (x : Imports) → Placed u o code shape i c ps → WantsDo u code shape d ps x →
    (p k a : ℕ) → T (offers_proc u p k) → offered p k o.offers ≡ Some a → Simulates code shape (suc d) (c + a) k (run_unit (suc d) u i x p)

pub record ObjectOf (u : SourceUnit) (o : Object) : Type 0 where
  -- others find it under the unit's name
  pub name : o.name ≡ u.name
  -- as many words are laid for it as its unit has: no stale size
  pub words : o.words ≡ u.words
  -- it asks the linker for what its unit wants, in the same order and with the same numbers of arguments
  pub wants : o.wants ≡ u.wants
  -- its row is one that a linker accepts: places of offers and fits lie in its code, and wants of fits are there
  pub accepted : T (sound o)
  -- it offers what its unit offers, with as many arguments
  pub offers : (p k : ℕ) → T (offers_proc u p k) → (a : ℕ) × (offered p k o.offers ≡ Some a)
  -- and nothing else
  pub offers_only : (p k a : ℕ) → offered p k o.offers ≡ Some a → T (offers_proc u p k)
  -- and calls of what it offers do what the unit's procedures do
  pub simulates : SimulatesUnit u o
