-- The compiler: from a unit to its object.
use Rattle.std.specs.Prelude.{ℕ, zero, suc, ◌+◌, ◌-◌, cond, List, [], ◌∷◌, ◌++◌, length, Some, None, Option, nat_lt}
use Rattle.std.specs.List.{slice_get}
use Rattle.rows.specs.Operations.{number}
use Rattle.rows.specs.Units.{Expr, num, arg, word, op, if, keep, then, out, next, call, Exprs, nil, cons, Proc, SourceUnit}
use Rattle.rows.specs.Frames.{frame}
use Rattle.rows.specs.Objects.{Offer, Object}
use Rattle.machine.specs.Instructions.{Push, Arg, Load, Store, Operate, JumpIfZero, Jump, Call, SetFrame, Return, Out, Next, Pop, Reserve, Release, Count}
use Rattle.compiler.specs.Instructions.{Operand, plain, in_code, in_words, of_want, Instruction, instr, code_words, code_fits}

-- how many words the code of an expression has, wherever it lies
abbrev mutual
  pub size : Expr → ℕ
  size (num n) = 2
  size (arg i) = 2
  size (word i) = 2
  size (op o x y) = size x + (size y + 2)
  size (if c x y) = size c + (2 + (size x + (2 + size y)))
  size (keep i e) = size e + 2
  size (then x y) = size x + (2 + size y)
  size (out e) = size e + 2
  size next = 2
  size (call c es) = size_args es + 2

  pub size_args : Exprs → ℕ
  size_args nil = 0
  size_args (cons e es) = size e + size_args es

abbrev pub size_proc : Proc → ℕ
size_proc p = 6 + (size p.body + 4)

-- where the code of procedure n begins: the procedures lie one after the other
abbrev pub proc_at : List Proc → ℕ → ℕ
proc_at [] n = 0
proc_at (p ∷ ps) zero = 0
proc_at (p ∷ ps) (suc n) = size_proc p + proc_at ps n

-- where a call of callee c goes: first the wants are counted, then the unit's own procedures
abbrev pub callee : SourceUnit → ℕ → Operand
callee u c = cond (nat_lt c (length u.wants)) (of_want c) (in_code (proc_at u.procs (c - length u.wants)))

-- the code of an expression that begins at a of the object's code
abbrev mutual
  pub code_expr : SourceUnit → ℕ → Expr → List Instruction
  code_expr u a (num n) = instr Push (plain n) ∷ []
  code_expr u a (arg i) = instr Arg (plain i) ∷ []
  code_expr u a (word i) = instr Load (in_words i) ∷ []
  code_expr u a (op o x y) = code_expr u a x ++ (code_expr u (a + size x) y ++ (instr Operate (plain (number o)) ∷ []))
  code_expr u a (if c x y) =
      code_expr u a c ++ (instr JumpIfZero (in_code (a + size c + 2 + size x + 2)) ∷
      (code_expr u (a + size c + 2) x ++ (instr Jump (in_code (a + size c + 2 + size x + 2 + size y)) ∷
      code_expr u (a + size c + 2 + size x + 2) y)))
  code_expr u a (keep i e) = code_expr u a e ++ (instr Store (in_words i) ∷ [])
  code_expr u a (then x y) = code_expr u a x ++ (instr Pop (plain 0) ∷ code_expr u (a + size x + 2) y)
  code_expr u a (out e) = code_expr u a e ++ (instr Out (plain 0) ∷ [])
  code_expr u a next = instr Next (plain 0) ∷ []
  code_expr u a (call c es) = code_args u a es ++ (instr Call (callee u c) ∷ [])

  -- arguments from left to right
  pub code_args : SourceUnit → ℕ → Exprs → List Instruction
  code_args u a nil = []
  code_args u a (cons e es) = code_expr u a e ++ code_args u (a + size e) es

-- a procedure counts a call, takes its frame, works, gives the frame back and returns
abbrev pub code_proc : SourceUnit → ℕ → Proc → List Instruction
code_proc u a p =
    instr Count (plain 0) ∷ instr Reserve (plain (frame p)) ∷ instr SetFrame (plain p.args) ∷
    (code_expr u (a + 6) p.body ++ (instr Release (plain (frame p)) ∷ instr Return (plain p.args) ∷ []))

abbrev pub code_procs : SourceUnit → ℕ → List Proc → List Instruction
code_procs u a [] = []
code_procs u a (p ∷ ps) = code_proc u a p ++ code_procs u (a + size_proc p) ps

abbrev pub code_unit : SourceUnit → List Instruction
code_unit u = code_procs u 0 u.procs

-- how many arguments a procedure takes; 0 where it is not there
abbrev pub proc_args : Option Proc → ℕ
proc_args None = 0
proc_args (Some p) = p.args

abbrev pub offers_of : SourceUnit → List ℕ → List Offer
offers_of u [] = []
offers_of u (p ∷ ps) = record { proc = p; args = proc_args (slice_get u.procs p); at = proc_at u.procs p } ∷ offers_of u ps

abbrev pub object : SourceUnit → Object
object u = record { name = u.name; words = u.words; wants = u.wants; offers = offers_of u u.offers; code = code_words (code_unit u); fits = code_fits 0 (code_unit u) }
