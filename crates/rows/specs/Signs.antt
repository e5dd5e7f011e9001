-- The sign of an expression: what the expression is, and what stands before its parts in its row.
use Rattle.std.specs.Prelude.{◌≡◌, ℕ, ◌-◌, cond, List, [], ◌∷◌, ◌++◌, Some, None, Ok, Err, Option, Result, ◌≢◌, nat_lt}
use Rattle.std.specs.List.{slice_get}
use Rattle.rows.specs.Operations.{Op, Add, Sub, Mul, Div, Less, Same, operations, number}
use Rattle.rows.specs.Units.{Expr, num, arg, word, op, if, keep, then, out, next, call, Exprs, nil, cons, count}
use Rattle.rows.specs.RowFronts.{Begins}
use Rattle.rows.specs.declared.operations.Operation.{Operation as OperationSign}
use Rattle.rows.specs.declared.operations.Operation.TheVariants as sign
use Rattle.rows.specs.declared.operations.UnknownOperation.{UnknownOperation}
use Rattle.rows.specs.declared.signs.Callee.{Callee}
use Rattle.rows.specs.declared.signs.Target.{Target}
use Rattle.rows.specs.declared.signs.Target.TheVariants.{Want, Own}
use Rattle.rows.specs.declared.signs.Sign.{Sign}
use Rattle.rows.specs.declared.signs.Sign.TheVariants.{Number, Argument, Word, Operation, If, Keep, Then, Out, Next, Call}

-- the operation that a sign names, and the sign of an operation
abbrev pub op_of : OperationSign → Op
op_of sign.Add = Add
op_of sign.Sub = Sub
op_of sign.Mul = Mul
op_of sign.Div = Div
op_of sign.Less = Less
op_of sign.Same = Same

abbrev pub op_sign : Op → OperationSign
op_sign Add = sign.Add
op_sign Sub = sign.Sub
op_sign Mul = sign.Mul
op_sign Div = sign.Div
op_sign Less = sign.Less
op_sign Same = sign.Same

-- the operation with a number, or that none has it
abbrev pub OperationSays : ℕ → Result OperationSign UnknownOperation → Type 0
OperationSays n (Ok o) = slice_get operations n ≡ Some (op_of o)
OperationSays n (Err e) = (slice_get operations n ≡ None) × (e.0 ≡ n)

-- what a callee is in a unit with so many wants
abbrev pub target_of : ℕ → Callee → Target
target_of wants c = cond (nat_lt c.0 wants) (Want c.0) (Own (record { 0 = c.0 - wants }))

-- a sign in a row
abbrev pub row_sign : Sign → List ℕ
row_sign (Number n) = 0 ∷ n ∷ []
row_sign (Argument i) = 1 ∷ i ∷ []
row_sign (Word i) = 2 ∷ i ∷ []
row_sign (Operation o) = 3 ∷ number (op_of o) ∷ []
row_sign If = 4 ∷ []
row_sign (Keep i) = 5 ∷ i ∷ []
row_sign Then = 6 ∷ []
row_sign Out = 7 ∷ []
row_sign Next = 8 ∷ []
row_sign (Call c n) = 9 ∷ c.0 ∷ n ∷ []

-- how many parts stand behind a sign
abbrev pub part_count : Sign → ℕ
part_count (Number n) = 0
part_count (Argument i) = 0
part_count (Word i) = 0
part_count (Operation o) = 2
part_count If = 3
part_count (Keep i) = 1
part_count Then = 2
part_count Out = 1
part_count Next = 0
part_count (Call c n) = n

-- the sign of an expression and its parts: its row is the sign's row and then the parts' rows
abbrev pub sign_of : Expr → Sign
sign_of (num n) = Number n
sign_of (arg i) = Argument i
sign_of (word i) = Word i
sign_of (op o a b) = Operation (op_sign o)
sign_of (if c a b) = If
sign_of (keep i e) = Keep i
sign_of (then a b) = Then
sign_of (out e) = Out
sign_of next = Next
sign_of (call c es) = Call (record { 0 = c }) (count es)

abbrev pub parts : Expr → Exprs
parts (num n) = nil
parts (arg i) = nil
parts (word i) = nil
parts (op o a b) = cons a (cons b nil)
parts (if c a b) = cons c (cons a (cons b nil))
parts (keep i e) = cons e nil
parts (then a b) = cons a (cons b nil)
parts (out e) = cons e nil
parts next = nil
parts (call c es) = es

-- what a reader of one sign gives: the sign in front of a row and how many words it takes, or that no sign stands there
abbrev pub SignSays : List ℕ → Option (Sign × ℕ) → Type 0
SignSays row None = (s : Sign) (rest : List ℕ) → row ≢ row_sign s ++ rest
SignSays row (Some r) = Begins row r.1 (row_sign r.0)
