-- When a procedure's body is well formed in its unit: what it names is there, and calls have as many arguments as their callee takes.
use Rattle.std.specs.Prelude.{ℕ, ◌+◌, ◌^◌, max, Bool, true, false, ◌&&◌, List, [], ◌∷◌, Some, None, Option, ◌==◌, nat_lt}
use Rattle.rows.specs.Units.{Expr, num, arg, word, op, if, keep, then, out, next, call, Exprs, nil, cons, count, Proc, SourceUnit, arity}

abbrev pub takes : Option ℕ → ℕ → Bool
takes None n = false
takes (Some m) n = m == n

-- in unit u, in a procedure of k arguments
abbrev mutual
  pub formed : SourceUnit → ℕ → Expr → Bool
  formed u k (num n) = nat_lt n (2 ^ 32)
  formed u k (arg i) = nat_lt i k
  formed u k (word i) = nat_lt i u.words
  formed u k (op o a b) = formed u k a && formed u k b
  formed u k (if c a b) = formed u k c && (formed u k a && formed u k b)
  formed u k (keep i e) = nat_lt i u.words && formed u k e
  formed u k (then a b) = formed u k a && formed u k b
  formed u k (out e) = formed u k e
  formed u k next = true
  formed u k (call c es) = takes (arity u c) (count es) && formed_args u k es

  pub formed_args : SourceUnit → ℕ → Exprs → Bool
  formed_args u k nil = true
  formed_args u k (cons e es) = formed u k e && formed_args u k es

abbrev pub formed_procs : SourceUnit → List Proc → Bool
formed_procs u [] = true
formed_procs u (p ∷ ps) = formed u p.args p.body && formed_procs u ps

-- how deep expressions stand in one another
abbrev mutual
  pub depth : Expr → ℕ
  depth (num n) = 1
  depth (arg i) = 1
  depth (word i) = 1
  depth (op o a b) = 1 + max (depth a) (depth b)
  depth (if c a b) = 1 + max (depth c) (max (depth a) (depth b))
  depth (keep i e) = 1 + depth e
  depth (then a b) = 1 + max (depth a) (depth b)
  depth (out e) = 1 + depth e
  depth next = 1
  depth (call c es) = 1 + depths es

  pub depths : Exprs → ℕ
  depths nil = 0
  depths (cons e es) = max (depth e) (depths es)
