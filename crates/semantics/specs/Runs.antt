-- What units do together. A program is a list of units; a want is met by the procedure that its name says.
use Rattle.std.specs.Prelude.{ℕ, zero, suc, ◌-◌, cond, List, [], ◌∷◌, ◌++◌, length, drop, replicate, Some, None, Option, ◌==◌, nat_lt, slice_index, slice_index_or, slice_set}
use Rattle.std.specs.Option.{option_map}
use Rattle.std.specs.List.{slice_get}
use Rattle.rows.specs.Options.{◌>>=◌}
use Rattle.rows.specs.Operations.{apply}
use Rattle.rows.specs.Units.{Expr, num, arg, word, op, if, keep, then, out, next, call, Exprs, nil, cons, Want, Proc, SourceUnit}
use Rattle.rows.specs.Frames.{frame}

-- all units' words, the tape that is left, what has been put out, and the calls left
pub record State : Type 0 where
  pub words : List (List ℕ)
  pub tape : List ℕ
  pub outs : List ℕ
  pub left : ℕ

abbrev pub with_words : State → List (List ℕ) → State
with_words s words = record { words = words; tape = s.tape; outs = s.outs; left = s.left }

abbrev pub with_tape : State → List ℕ → State
with_tape s tape = record { words = s.words; tape = tape; outs = s.outs; left = s.left }

abbrev pub with_outs : State → List ℕ → State
with_outs s outs = record { words = s.words; tape = s.tape; outs = outs; left = s.left }

abbrev pub with_left : State → ℕ → State
with_left s left = record { words = s.words; tape = s.tape; outs = s.outs; left = left }

-- word i of unit u
abbrev pub word_at : List (List ℕ) → ℕ → ℕ → ℕ
word_at ws u i = slice_index (slice_index_or ws u []) i

abbrev pub keep_at : List (List ℕ) → ℕ → ℕ → ℕ → List (List ℕ)
keep_at ws u i v = slice_set ws u (slice_set (slice_index_or ws u []) i v)

-- what comes of an expression or a call: a value, an end for want of room or of calls, or the bad state, in which a callee is missing
pub data Result : Type 0 where
  value : ℕ → State → Result
  no_room : State → Result
  no_calls : State → Result
  bad : Result

-- what comes of a call's arguments
pub data Results : Type 0 where
  values : List ℕ → State → Results
  stop : Result → Results

-- goes on with a value; an end stays what it is
abbrev pub on : Result → (ℕ → State → Result) → Result
on (value v s) k = k v s
on (no_room s) k = no_room s
on (no_calls s) k = no_calls s
on bad k = bad

abbrev pub ons : Results → (List ℕ → State → Result) → Result
ons (values vs s) k = k vs s
ons (stop r) k = r

abbrev pub first : Result → (ℕ → State → Results) → Results
first (value v s) k = k v s
first (no_room s) k = stop (no_room s)
first (no_calls s) k = stop (no_calls s)
first bad k = stop bad

abbrev pub more : Results → (List ℕ → State → Results) → Results
more (values vs s) k = k vs s
more (stop r) k = stop r

abbrev pub choose : ℕ → Result → Result → Result
choose zero a b = b
choose (suc v) a b = a

-- everything from left to right, arguments before the call.
-- x: what a call of a callee does with the values of its arguments; u: the number of the unit that we are in; vs: the procedure's arguments
abbrev mutual
  pub eval : (ℕ → List ℕ → State → Result) → ℕ → List ℕ → Expr → State → Result
  eval x u vs (num n) s = value n s
  eval x u vs (arg i) s = value (slice_index vs i) s
  eval x u vs (word i) s = value (word_at s.words u i) s
  eval x u vs (op o a b) s = on (eval x u vs a s) (λ v t. on (eval x u vs b t) (λ w r. value (apply o v w) r))
  eval x u vs (if c a b) s = on (eval x u vs c s) (λ v t. choose v (eval x u vs a t) (eval x u vs b t))
  eval x u vs (keep i e) s = on (eval x u vs e s) (λ v t. value v (with_words t (keep_at t.words u i v)))
  eval x u vs (then a b) s = on (eval x u vs a s) (λ v t. eval x u vs b t)
  eval x u vs (out e) s = on (eval x u vs e s) (λ v t. value v (with_outs t (t.outs ++ (v ∷ []))))
  eval x u vs next s = value (slice_index s.tape 0) (with_tape s (drop 1 s.tape))
  eval x u vs (call c es) s = ons (evals x u vs es s) (λ ws t. x c ws t)

  pub evals : (ℕ → List ℕ → State → Result) → ℕ → List ℕ → Exprs → State → Results
  evals x u vs nil s = values [] s
  evals x u vs (cons e es) s = first (eval x u vs e s) (λ v t. more (evals x u vs es t) (λ ws r. values (v ∷ ws) r))

-- which unit has a name, counted from 0
abbrev pub position : ℕ → List SourceUnit → Option ℕ
position n [] = None
position n (u ∷ us) = cond (n == u.name) (Some 0) (option_map suc (position n us))

-- a procedure of a program: the unit's number and the procedure's in it
pub record Target : Type 0 where
  pub unit : ℕ
  pub proc : ℕ

abbrev pub wanted : List SourceUnit → Want → Option Target
wanted us w = do
  j ← position w.unit us
  Some (record { unit = j; proc = w.proc })

-- callee c of unit number i: first its wants are counted, then its own procedures
abbrev pub target : List SourceUnit → ℕ → ℕ → Option Target
target us i c = do
  u ← slice_get us i
  cond (nat_lt c (length u.wants)) (slice_get u.wants c >>= wanted us) (Some (record { unit = i; proc = c - length u.wants }))

abbrev pub proc_at : List SourceUnit → Target → Option Proc
proc_at us t = do
  u ← slice_get us t.unit
  slice_get u.procs t.proc

-- takes one of the calls left
abbrev pub spend : ℕ → State → (State → Result) → Result
spend zero s k = no_calls s
spend (suc left) s k = k (with_left s left)

-- takes the procedure's frame from the room; it is given back when the call returns, since only what the call does is passed what is left
abbrev pub enter : Option Proc → ℕ → (Proc → ℕ → Result) → State → Result
enter None room k s = bad
enter (Some p) room k s = cond (nat_lt room (frame p)) (no_room s) (k p (room - frame p))

abbrev pub through : Option Target → (Target → Result) → Result
through None k = bad
through (Some t) k = k t

-- a call of a procedure. d bounds how deep calls stand in one another; above the calls left it bounds nothing (`DepthBoundsNothing`)
abbrev pub run : ℕ → List SourceUnit → ℕ → Target → List ℕ → State → Result
run zero us room t vs s = no_calls s
run (suc d) us room t vs s =
    spend s.left s (λ r. enter (proc_at us t) room
    (λ p free. eval (λ c ws q. through (target us t.unit c) (λ n. run d us free n ws q)) t.unit vs p.body r) r)

abbrev pub zeros : List SourceUnit → List (List ℕ)
zeros [] = []
zeros (u ∷ us) = replicate u.words 0 ∷ zeros us

-- a program is a call of procedure 0 of the first unit, with this room, tape and number of calls; that call counts
abbrev pub source : List SourceUnit → ℕ → List ℕ → ℕ → Result
source us room tape calls = run (suc calls) us room (record { unit = 0; proc = 0 }) [] (record { words = zeros us; tape = tape; outs = []; left = calls })
