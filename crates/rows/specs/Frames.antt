-- How much room a procedure's call takes.
use Rattle.std.specs.Prelude.{ℕ, ◌+◌, max}
use Rattle.rows.specs.Units.{Expr, num, arg, word, op, if, keep, then, out, next, call, Exprs, nil, cons, Proc}

-- how many words the work on an expression holds at most; a second operand and a later argument wait on those before them
abbrev mutual
  pub height : Expr → ℕ
  height (num n) = 1
  height (arg i) = 1
  height (word i) = 1
  height (op o a b) = max (height a) (1 + height b)
  height (if c a b) = max (height c) (max (height a) (height b))
  height (keep i e) = height e
  height (then a b) = max (height a) (height b)
  height (out e) = height e
  height next = 1
  height (call c es) = max 1 (heights es)

  pub heights : Exprs → ℕ
  heights nil = 0
  heights (cons e es) = max (height e) (1 + heights es)

-- four words, one for each argument, and the height of the body
abbrev pub frame : Proc → ℕ
frame p = 4 + (p.args + height p.body)
