-- Bodies of procedures in a row, and what they may name.
use Rattle.std.specs.Prelude.{◌≡◌, ℕ, ◌^◌, ◌≤◌, Bool, true, T, List, [], map, nat_lt}
use Rattle.rows.specs.Units.{Expr, next, Exprs, count, Proc, SourceUnit, arity}
use Rattle.rows.specs.Formed.{takes, formed, formed_args, depth, depths}
use Rattle.rows.specs.ObjectViews.{wants_in}
use Rattle.rows.specs.declared.signs.Sign.{Sign}
use Rattle.rows.specs.declared.signs.Sign.TheVariants.{Number, Argument, Word, Operation, If, Keep, Then, Out, Next, Call}
use Rattle.rows.specs.declared.bodies.Scope.{Scope}

-- a procedure of which only the number of arguments is known
abbrev pub bodiless : ℕ → Proc
bodiless n = record { args = n; body = next }

-- a unit with so many words, the wants that these words say and procedures of so many arguments, as far as that says what a body may name
abbrev pub outlined : ℕ → List (List ℕ) → List ℕ → SourceUnit
outlined words wants arities = record { name = 0; words = words; wants = wants_in wants; procs = map bodiless arities; offers = [] }

abbrev pub outline : Scope → SourceUnit
outline s = outlined s.words s.wants.now s.arities.now

-- whether what a sign names is there in unit u, in a procedure of k arguments
abbrev pub allowed : SourceUnit → ℕ → Sign → Bool
allowed u k (Number n) = nat_lt n (2 ^ 32)
allowed u k (Argument i) = nat_lt i k
allowed u k (Word i) = nat_lt i u.words
allowed u k (Operation o) = true
allowed u k If = true
allowed u k (Keep i) = nat_lt i u.words
allowed u k Then = true
allowed u k Out = true
allowed u k Next = true
allowed u k (Call c n) = takes (arity u c.0) n

-- an expression that is at most d deep and well formed in u, in a procedure of k arguments
pub record Right (u : SourceUnit) (k d : ℕ) (e : Expr) : Type 0 where
  pub deep : depth e ≤ d
  pub formed : T (formed u k e)

-- n of them
pub record RightParts (u : SourceUnit) (k d n : ℕ) (es : Exprs) : Type 0 where
  pub count : count es ≡ n
  pub deep : depths es ≤ d
  pub formed : T (formed_args u k es)

-- any expression
abbrev pub Any : Expr → Type 0
Any e = Unit {0}
