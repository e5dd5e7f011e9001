-- Units: procedures over 32-bit words, with words of their own, what they want from other units and what they offer them.
use Rattle.std.specs.Prelude.{ℕ, ◌+◌, ◌-◌, cond, List, length, Option, nat_lt}
use Rattle.std.specs.Option.{option_map}
use Rattle.std.specs.List.{slice_get}
use Rattle.rows.specs.Operations.{Op}

-- an expression, and the arguments of a call
mutual
  pub data Expr : Type 0 where
    -- a number; an argument of the procedure; one of the unit's words
    num : ℕ → Expr
    arg : ℕ → Expr
    word : ℕ → Expr
    op : Op → Expr → Expr → Expr
    -- the second if the first is not 0, else the third
    if : Expr → Expr → Expr → Expr
    -- keeps a value in one of the unit's words, and gives it
    keep : ℕ → Expr → Expr
    -- one and then another, which gives the second
    then : Expr → Expr → Expr
    -- puts a value out, and gives it
    out : Expr → Expr
    -- takes the tape's next word; 0 at its end
    next : Expr
    -- calls a callee: below the number of wants it is that want, else the unit's own procedure, counted behind them
    call : ℕ → Exprs → Expr

  pub data Exprs : Type 0 where
    nil : Exprs
    cons : Expr → Exprs → Exprs

abbrev pub count : Exprs → ℕ
count nil = 0
count (cons e es) = 1 + count es

-- a want (an import): a procedure of the unit with that name, called with so many arguments
pub record Want : Type 0 where
  pub unit : ℕ
  pub proc : ℕ
  pub args : ℕ

pub record Proc : Type 0 where
  pub args : ℕ
  pub body : Expr

-- offers (exports): which procedures others may call, by number; one may stand there twice
pub record SourceUnit : Type 0 where
  pub name : ℕ
  pub words : ℕ
  pub wants : List Want
  pub procs : List Proc
  pub offers : List ℕ

-- how many arguments a callee takes, where it is there
abbrev pub arity : SourceUnit → ℕ → Option ℕ
arity u c = cond (nat_lt c (length u.wants))
    (option_map (λ w. w.args) (slice_get u.wants c))
    (option_map (λ p. p.args) (slice_get u.procs (c - length u.wants)))
