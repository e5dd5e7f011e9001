-- What writing the code of expressions promises.
use Rattle.std.specs.Prelude.{◌≡◌, ℕ, ◌-◌, max, cond, T, List, [], ◌∷◌, ◌++◌, length, Some, None, Option, ◌≢◌, nat_lt, slice_index}
use Rattle.rows.specs.Operations.{number}
use Rattle.rows.specs.Units.{Expr, if, then, Exprs, nil, cons, SourceUnit}
use Rattle.rows.specs.Formed.{formed, formed_args}
use Rattle.rows.specs.Frames.{height, heights}
use Rattle.rows.specs.UnitRows.{row_expr, row_exprs}
use Rattle.rows.specs.Signs.{op_of}
use Rattle.rows.specs.Bodies.{outline, Right, RightParts}
use Rattle.rows.specs.declared.signs.Sign.{Sign}
use Rattle.rows.specs.declared.signs.Sign.TheVariants.{Number, Argument, Word, Operation, If, Keep, Then, Out, Next, Call}
use Rattle.machine.specs.Instructions as machine
use Rattle.compiler.specs.Instructions.{Operand, plain, in_code, in_words, of_want, Instruction, instr}
use Rattle.compiler.specs.Code.{code_expr, code_args}
use Rattle.compiler.specs.Measuring.{Starts}
use Rattle.compiler.specs.Writing.{State, Gone, Wrote}
use Rattle.compiler.specs.declared.names.Names.{Names}

-- where calls go: the wants are counted first, then the unit's own procedures, which begin at these places of its code
pub record Callees : Type 0 where
  pub wants : ℕ
  pub starts : List ℕ

abbrev pub callees_of : Names → Callees
callees_of p = record { wants = length p.scope.wants.now; starts = p.starts.now }

-- where a call of callee c goes
abbrev pub callee_operand : Callees → ℕ → Operand
callee_operand p c = cond (nat_lt c p.wants) (of_want c) (in_code (slice_index p.starts (c - p.wants)))

-- the callees are those of unit u
pub record CalleesOf (p : Callees) (u : SourceUnit) : Type 0 where
  pub wants : p.wants ≡ length u.wants
  pub starts : Starts u.procs p.starts

-- the instruction of a sign that stands behind the code of its parts
abbrev pub own_instruction : Callees → Sign → Instruction
own_instruction p (Number n) = instr machine.Push (plain n)
own_instruction p (Argument i) = instr machine.Arg (plain i)
own_instruction p (Word i) = instr machine.Load (in_words i)
own_instruction p (Operation o) = instr machine.Operate (plain (number (op_of o)))
own_instruction p If = instr machine.Pop (plain 0)
own_instruction p (Keep i) = instr machine.Store (in_words i)
own_instruction p Then = instr machine.Pop (plain 0)
own_instruction p Out = instr machine.Out (plain 0)
own_instruction p Next = instr machine.Next (plain 0)
own_instruction p (Call c n) = instr machine.Call (callee_operand p c.0)

-- a sign whose code is that of its parts and then one instruction
pub record Simple (s : Sign) : Type 0 where
  pub no_branch : s ≡ If → ⊥
  pub no_sequence : s ≡ Then → ⊥

-- in this scope, an expression is well formed and at most d deep; so are n of them
abbrev pub RightHere : Names → ℕ → Expr → Type 0
RightHere p d e = Right (outline p.scope) p.scope.args d e

abbrev pub RightPartsHere : Names → ℕ → ℕ → Exprs → Type 0
RightPartsHere p d n es = RightParts (outline p.scope) p.scope.args d n es

-- an expression was read that is right and has height h, and what was written is its code in whichever unit has these callees
pub record WroteExpr (p : Names) (d : ℕ) (s s' : State) (h : ℕ) : Type 0 where
  pub expr : Expr
  pub right : RightHere p d expr
  pub row : s.row ≡ row_expr expr ++ s'.row
  pub high : h ≡ height expr
  pub gone : Gone 0 0 s s'
  pub writes : (u : SourceUnit) → CalleesOf (callees_of p) u → T (formed u p.scope.args expr) → Wrote (code_expr u (length s.code) expr) s s'

-- no right expression stands at the front of the row; nor do n of them
abbrev pub NoExpr : Names → ℕ → List ℕ → Type 0
NoExpr p d row = (e : Expr) (rest : List ℕ) → RightHere p d e → row ≢ row_expr e ++ rest

abbrev pub NoParts : Names → ℕ → ℕ → List ℕ → Type 0
NoParts p d n row = (es : Exprs) (rest : List ℕ) → RightPartsHere p d n es → row ≢ row_exprs es ++ rest

-- what the writer of an expression gives: its height, or that there is none
abbrev pub ExprSays : Names → ℕ → State → State → Option ℕ → Type 0
ExprSays p d s s' None = NoExpr p d s.row
ExprSays p d s s' (Some h) = WroteExpr p d s s' h

-- what is to be written of expressions that stand one behind the other, in a unit, from a place of its code on, with how high the work on them is;
-- besides what they have themselves it has at most so many words of code and of fits
pub record Shape : Type 0 where
  pub own_code : ℕ
  pub own_fits : ℕ
  pub high : Exprs → ℕ
  pub code : SourceUnit → ℕ → Exprs → List Instruction

-- n expressions were read that are right, and what was written is of that shape
pub record WroteParts (p : Names) (d n : ℕ) (f : Shape) (s s' : State) (h : ℕ) : Type 0 where
  pub parts : Exprs
  pub right : RightPartsHere p d n parts
  pub row : s.row ≡ row_exprs parts ++ s'.row
  pub high : h ≡ f.high parts
  pub gone : Gone f.own_code f.own_fits s s'
  pub writes : (u : SourceUnit) → CalleesOf (callees_of p) u → T (formed_args u p.scope.args parts) → Wrote (f.code u (length s.code) parts) s s'

abbrev pub PartsSays : Names → ℕ → ℕ → Shape → State → State → Option ℕ → Type 0
PartsSays p d n f s s' None = NoParts p d n s.row
PartsSays p d n f s s' (Some h) = WroteParts p d n f s s' h

-- arguments and then an instruction
abbrev pub then_one : Instruction → Shape
then_one i = record { own_code = 2; own_fits = 3; high = λ es. max (heights es) 1; code = λ u a es. code_args u a es ++ (i ∷ []) }

-- the two parts of a sequence
abbrev pub sequence_high : Exprs → ℕ
sequence_high nil = 0
sequence_high (cons x nil) = 0
sequence_high (cons x (cons y es)) = height (then x y)

abbrev pub sequence_code : SourceUnit → ℕ → Exprs → List Instruction
sequence_code u a nil = []
sequence_code u a (cons x nil) = []
sequence_code u a (cons x (cons y es)) = code_expr u a (then x y)

abbrev pub sequence : Shape
sequence = record { own_code = 2; own_fits = 3; high = sequence_high; code = sequence_code }

-- the three parts of a branch
abbrev pub branch_high : Exprs → ℕ
branch_high nil = 0
branch_high (cons c nil) = 0
branch_high (cons c (cons x nil)) = 0
branch_high (cons c (cons x (cons y es))) = height (if c x y)

abbrev pub branch_code : SourceUnit → ℕ → Exprs → List Instruction
branch_code u a nil = []
branch_code u a (cons c nil) = []
branch_code u a (cons c (cons x nil)) = []
branch_code u a (cons c (cons x (cons y es))) = code_expr u a (if c x y)

abbrev pub branch : Shape
branch = record { own_code = 4; own_fits = 6; high = branch_high; code = branch_code }
