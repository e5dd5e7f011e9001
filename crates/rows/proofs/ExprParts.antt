-- An expression is its sign and its parts: its row, and induction over the parts.
use Rattle.std.proofs.Common.{◌≡◌, ◌≤◌, ◌++◌, length, Some, refl, ap, arith}
use Rattle.std.specs.List.{slice_get}
use Rattle.std.proofs.lemmas.List.{append-nil}
use Rattle.rows.specs.Operations.{Op, Add, Sub, Mul, Div, Less, Same, number, operations}
use Rattle.rows.specs.Units.{Expr, num, arg, word, op, if, keep, then, out, next, call, Exprs, nil, cons, count}
use Rattle.rows.specs.UnitRows.{row_expr, row_exprs}
use Rattle.rows.specs.Signs.{op_of, op_sign, row_sign, part_count, sign_of, parts}
use Rattle.rows.specs.declared.operations.Operation.{Operation as OperationSign}
use Rattle.rows.specs.declared.operations.Operation.TheVariants as sign
use Rattle.rows.specs.declared.signs.Sign.{Sign}
use Rattle.rows.specs.declared.signs.Sign.TheVariants.{Number, Argument, Word, Operation, If, Keep, Then, Out, Next, Call}

-- the number of an operation's sign is that of the operation
pub op_of_sign : (o : Op) → op_of (op_sign o) ≡ o
op_of_sign Add = refl
op_of_sign Sub = refl
op_of_sign Mul = refl
op_of_sign Div = refl
op_of_sign Less = refl
op_of_sign Same = refl

pub sign_of_op : (o : OperationSign) → op_sign (op_of o) ≡ o
sign_of_op sign.Add = refl
sign_of_op sign.Sub = refl
sign_of_op sign.Mul = refl
sign_of_op sign.Div = refl
sign_of_op sign.Less = refl
sign_of_op sign.Same = refl

pub nth_number : (o : Op) → slice_get operations (number o) ≡ Some o
nth_number Add = refl
nth_number Sub = refl
nth_number Mul = refl
nth_number Div = refl
nth_number Less = refl
nth_number Same = refl

pub sign_some : (s : Sign) → 1 ≤ length (row_sign s)
sign_some (Number n) = omega arith
sign_some (Argument i) = omega arith
sign_some (Word i) = omega arith
sign_some (Operation o) = omega arith
sign_some If = omega arith
sign_some (Keep i) = omega arith
sign_some Then = omega arith
sign_some Out = omega arith
sign_some Next = omega arith
sign_some (Call c n) = omega arith

-- the row of an expression is its sign's and then its parts'
pub row_parts : (e : Expr) → row_expr e ≡ row_sign (sign_of e) ++ row_exprs (parts e)
row_parts (num n) = refl
row_parts (arg i) = refl
row_parts (word i) = refl
row_parts (op o a b) = simp (op_of_sign, append-nil)
row_parts (if c a b) = simp append-nil
row_parts (keep i e) = simp append-nil
row_parts (then a b) = simp append-nil
row_parts (out e) = simp append-nil
row_parts next = refl
row_parts (call c es) = refl

-- a sign says how many parts there are
pub count_parts : (e : Expr) → count (parts e) ≡ part_count (sign_of e)
count_parts (num n) = refl
count_parts (arg i) = refl
count_parts (word i) = refl
count_parts (op o a b) = refl
count_parts (if c a b) = refl
count_parts (keep i e) = refl
count_parts (then a b) = refl
count_parts (out e) = refl
count_parts next = refl
count_parts (call c es) = refl

-- what holds of an expression if it holds of its parts holds of every expression
abbrev pub Each : (Expr → Type 0) → Exprs → Type 0
Each P nil = Unit {0}
Each P (cons e es) = P e × Each P es

mutual
  pub by_parts : (P : Expr → Type 0) → ((e : Expr) → Each P (parts e) → P e) → (e : Expr) → P e
  by_parts P step (num n) = step (num n) tt
  by_parts P step (arg i) = step (arg i) tt
  by_parts P step (word i) = step (word i) tt
  by_parts P step (op o a b) = step (op o a b) (by_parts P step a, (by_parts P step b, tt))
  by_parts P step (if c a b) = step (if c a b) (by_parts P step c, (by_parts P step a, (by_parts P step b, tt)))
  by_parts P step (keep i e) = step (keep i e) (by_parts P step e, tt)
  by_parts P step (then a b) = step (then a b) (by_parts P step a, (by_parts P step b, tt))
  by_parts P step (out e) = step (out e) (by_parts P step e, tt)
  by_parts P step next = step next tt
  by_parts P step (call c es) = step (call c es) (each_by_parts P step es)

  pub each_by_parts : (P : Expr → Type 0) → ((e : Expr) → Each P (parts e) → P e) → (es : Exprs) → Each P es
  each_by_parts P step nil = tt
  each_by_parts P step (cons e es) = (by_parts P step e, each_by_parts P step es)

-- the expression with that sign and those parts; anything where the parts are too few
abbrev pub node : Sign → Exprs → Expr
node (Number n) es = num n
node (Argument i) es = arg i
node (Word i) es = word i
node (Operation o) nil = next
node (Operation o) (cons a nil) = next
node (Operation o) (cons a (cons b es)) = op (op_of o) a b
node If nil = next
node If (cons c nil) = next
node If (cons c (cons a nil)) = next
node If (cons c (cons a (cons b es))) = if c a b
node (Keep i) nil = next
node (Keep i) (cons e es) = keep i e
node Then nil = next
node Then (cons a nil) = next
node Then (cons a (cons b es)) = then a b
node Out nil = next
node Out (cons e es) = out e
node Next es = next
node (Call c n) es = call c.0 es

-- an expression is made of its sign and its parts
pub node_of : (e : Expr) → node (sign_of e) (parts e) ≡ e
node_of (num n) = refl
node_of (arg i) = refl
node_of (word i) = refl
node_of (op o a b) = ap (λ p. op p a b) (op_of_sign o)
node_of (if c a b) = refl
node_of (keep i e) = refl
node_of (then a b) = refl
node_of (out e) = refl
node_of next = refl
node_of (call c es) = refl

-- as many parts as a sign asks for make an expression with that sign and those parts
pub record Made (s : Sign) (es : Exprs) (e : Expr) : Type 0 where
  pub sign : sign_of e ≡ s
  pub parts : parts e ≡ es

pub made : (s : Sign) (es : Exprs) → count es ≡ part_count s → Made s es (node s es)
made (Number n) nil c = record { sign = refl; parts = refl }
made (Number n) (cons e es) c = absurd (omega arith)
made (Argument i) nil c = record { sign = refl; parts = refl }
made (Argument i) (cons e es) c = absurd (omega arith)
made (Word i) nil c = record { sign = refl; parts = refl }
made (Word i) (cons e es) c = absurd (omega arith)
made (Operation o) nil c = absurd (omega arith)
made (Operation o) (cons a nil) c = absurd (omega arith)
made (Operation o) (cons a (cons b nil)) c = record { sign = ap Operation (sign_of_op o); parts = refl }
made (Operation o) (cons a (cons b (cons e es))) c = absurd (omega arith)
made If nil c = absurd (omega arith)
made If (cons a nil) c = absurd (omega arith)
made If (cons a (cons b nil)) c = absurd (omega arith)
made If (cons a (cons b (cons d nil))) c = record { sign = refl; parts = refl }
made If (cons a (cons b (cons d (cons e es)))) c = absurd (omega arith)
made (Keep i) nil c = absurd (omega arith)
made (Keep i) (cons a nil) c = record { sign = refl; parts = refl }
made (Keep i) (cons a (cons e es)) c = absurd (omega arith)
made Then nil c = absurd (omega arith)
made Then (cons a nil) c = absurd (omega arith)
made Then (cons a (cons b nil)) c = record { sign = refl; parts = refl }
made Then (cons a (cons b (cons e es))) c = absurd (omega arith)
made Out nil c = absurd (omega arith)
made Out (cons a nil) c = record { sign = refl; parts = refl }
made Out (cons a (cons e es)) c = absurd (omega arith)
made Next nil c = record { sign = refl; parts = refl }
made Next (cons e es) c = absurd (omega arith)
made (Call f n) es c = record { sign = ap (Call f) c; parts = refl }
