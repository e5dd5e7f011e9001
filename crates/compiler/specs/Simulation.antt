-- Code for an expression, wherever it comes to lie and whatever code its calls go to, does what the expression does,
-- as long as the calls do what they should.
use Rattle.std.specs.Prelude.{◌≡◌, ℕ, ◌+◌, ◌^◌, ◌<◌, ◌≤◌, T, List, length, take, drop, Some, slice_index}
use Rattle.std.specs.List.{slice_get}
use Rattle.rows.specs.Units.{Expr, SourceUnit, arity}
use Rattle.rows.specs.Frames.{height}
use Rattle.rows.specs.Formed.{formed}
use Rattle.machine.specs.Machine.{Machine, at}
use Rattle.machine.specs.Instructions.{steps}
use Rattle.semantics.specs.Runs.{State, Result, value, no_room, no_calls, bad, eval}
use Rattle.semantics.specs.Relation.{total, Represents, CallSite, Entered, Halts, Outcome}
use Rattle.compiler.specs.Instructions.{Instruction, Place, placed_word, placed_words}
use Rattle.compiler.specs.Code.{size, code_expr, callee}

-- these instructions of an object that lies at l stand in the code, at a of the object's own
abbrev pub Lies : List ℕ → Place → ℕ → List Instruction → Type 0
Lies code l a is = take (length (placed_words l is)) (drop (l.code + a) code) ≡ placed_words l is

-- what a call of a callee does, with the values of its arguments
abbrev pub Calls : Type 0
Calls = ℕ → List ℕ → State → Result

-- as long as the calls do what they should: wherever the code's call of a callee goes, what comes of it is what x says,
-- if so much room is free and no more than so many calls are left
abbrev pub CallsDo : SourceUnit → Place → List ℕ → List ℕ → ℕ → ℕ → Calls → Type 0
CallsDo u l code shape room left x =
    (c k : ℕ) → arity u c ≡ Some k →
    (site : CallSite) (ws : List ℕ) (s : State) (m : Machine) → length ws ≡ k → s.left ≤ left →
    Entered shape (placed_word l (callee u c)) site room ws s m → Outcome code shape site s.left m (x c ws s)

-- a machine is about to work on an expression of height h: the procedure's arguments are vs, and so much room is free for calls
pub record Working (shape : List ℕ) (place : ℕ) (vs : List ℕ) (room h : ℕ) (s : State) (m : Machine) : Type 0 where
  pub represents : Represents shape s m
  pub pc : m.pc ≡ place
  -- the arguments lie at fp, above the units' words and below the top of the stack
  pub above : total shape ≤ m.fp
  pub arguments : (j : ℕ) → j < length vs → at m (m.fp + j) ≡ slice_index vs j
  pub behind : m.fp + length vs ≤ m.sp
  pub free : m.free ≡ room
  pub room_word : room < 2 ^ 32
  -- there is memory for what the work holds, for the two words that a call leaves, and for the room
  pub memory : m.sp + (h + (2 + room)) ≤ length m.memory
  pub addressable : length m.memory ≤ 2 ^ 32

-- the work is done: v lies on the top, the state is s, and all else is as it was
pub record Worked (shape : List ℕ) (place v : ℕ) (s : State) (m m' : Machine) : Type 0 where
  pub represents : Represents shape s m'
  pub pc : m'.pc ≡ place
  pub fp : m'.fp ≡ m.fp
  pub sp : m'.sp ≡ m.sp + 1
  pub value : at m' m.sp ≡ v
  pub free : m'.free ≡ m.free
  pub memory : length m'.memory ≡ length m.memory
  pub below : (j : ℕ) → total shape ≤ j → j < m.sp → at m' j ≡ at m j

-- what comes of the machine, if what comes of the expression is to be this; place: behind the expression's code.
-- The bad state, in which a callee is missing, promises nothing
abbrev pub Comes : List ℕ → List ℕ → ℕ → ℕ → Machine → Result → Type 0
Comes code shape place left m (value v s) = (n : ℕ) × (s.left ≤ left) × Worked shape place v s m (steps n code m)
Comes code shape place left m (no_room s) = Halts code 3 s.outs m
Comes code shape place left m (no_calls s) = Halts code 2 s.outs m
Comes code shape place left m bad = Unit {0}

-- u is the i-th unit of the shape; its object lies at l, with the expression's code at a of it
pub record ExpressionPlaced (u : SourceUnit) (code shape : List ℕ) (i : ℕ) (l : Place) (a : ℕ) (e : Expr) : Type 0 where
  pub addressable : length code < 2 ^ 32
  pub unit : slice_get shape i ≡ Some u.words
  pub words : l.words ≡ total (take i shape)
  pub lies : Lies code l a (code_expr u a e)

abbrev pub SimulatesExpressions : Type 0
SimulatesExpressions =
    -- wherever the expression's code comes to lie, in whichever unit
    (u : SourceUnit) (code shape : List ℕ) (i : ℕ) (l : Place) (a : ℕ) (e : Expr) → ExpressionPlaced u code shape i l a e →
    -- in a procedure with these arguments, in which the expression is well formed
    (vs : List ℕ) → T (formed u (length vs) e) →
    -- and as long as the calls do what they should, whatever code they go to
    (room left : ℕ) (x : Calls) → CallsDo u l code shape room left x →
    -- a machine that is about to work on it comes to what the expression comes to
    (s : State) (m : Machine) → s.left ≤ left → Working shape (l.code + a) vs room (height e) s m →
    Comes code shape (l.code + (a + size e)) s.left m (eval x i vs e s)
