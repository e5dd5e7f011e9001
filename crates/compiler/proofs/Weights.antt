-- How long the row of a unit's object is.
use Rattle.std.proofs.Common.{◌≡◌, ℕ, ◌+◌, ◌*◌, ◌≤◌, List, [], ◌∷◌, ◌++◌, length, refl, arith, length-append}
use Rattle.rows.specs.Units.{Expr, num, arg, word, op, if, keep, then, out, next, call, Exprs, nil, cons, Proc, SourceUnit}
use Rattle.rows.specs.UnitRows.{row_expr, row_exprs, row_procs, UnitRow}
use Rattle.rows.specs.ObjectRows.{row_offers, row_fits, row_object}
use Rattle.compiler.specs.Instructions.{Operand, plain, in_code, in_words, of_want, Instruction, instr, code_words, code_fits}
use Rattle.compiler.specs.Code.{callee, code_expr, code_args, code_proc, code_procs, size, size_proc, code_unit, offers_of, object}
use Rattle.compiler.proofs.Lengths.{row_length}

-- how many words an operand's instruction takes of the object's row, with its fit
abbrev weight_operand : Operand → ℕ
weight_operand (plain n) = 2
weight_operand (in_code n) = 5
weight_operand (in_words n) = 5
weight_operand (of_want n) = 5

abbrev weight : List Instruction → ℕ
weight [] = 0
weight (instr o x ∷ is) = weight_operand x + weight is

weight-append : (is js : List Instruction) → weight (is ++ js) ≡ weight is + weight js
weight-append [] js = omega arith
weight-append (instr o x ∷ is) js = omega (arith, weight-append is js)

row_weight : (a : ℕ) (is : List Instruction) → length (code_words is) + length (row_fits (code_fits a is)) ≡ weight is
row_weight a [] = refl
row_weight a (instr o (plain n) ∷ is) = omega (arith, row_weight (a + 2) is)
row_weight a (instr o (in_code n) ∷ is) = omega (arith, row_weight (a + 2) is)
row_weight a (instr o (in_words n) ∷ is) = omega (arith, row_weight (a + 2) is)
row_weight a (instr o (of_want n) ∷ is) = omega (arith, row_weight (a + 2) is)

weight_callee : (x : Operand) → weight_operand x ≤ 5
weight_callee (plain n) = omega arith
weight_callee (in_code n) = omega arith
weight_callee (in_words n) = omega arith
weight_callee (of_want n) = omega arith

mutual
  weight_expr : (e : Expr) (u : SourceUnit) (a : ℕ) → weight (code_expr u a e) ≤ 10 * length (row_expr e)
  weight_expr (num n) u a = omega arith
  weight_expr (arg j) u a = omega arith
  weight_expr (word j) u a = omega arith
  weight_expr (op o y z) u a = simp (weight-append, length-append) (omega (arith, weight_expr y u a, weight_expr z u (a + size y)))
  weight_expr (if c y z) u a = simp (weight-append, length-append) (omega (arith, weight_expr c u a, weight_expr y u (a + size c + 2), weight_expr z u (a + size c + 2 + size y + 2)))
  weight_expr (keep j e) u a = simp weight-append (omega (arith, weight_expr e u a))
  weight_expr (then y z) u a = simp (weight-append, length-append) (omega (arith, weight_expr y u a, weight_expr z u (a + size y + 2)))
  weight_expr (out e) u a = simp weight-append (omega (arith, weight_expr e u a))
  weight_expr next u a = omega arith
  weight_expr (call c es) u a = simp weight-append (omega (arith, weight_args es u a, weight_callee (callee u c)))

  weight_args : (es : Exprs) (u : SourceUnit) (a : ℕ) → weight (code_args u a es) ≤ 10 * length (row_exprs es)
  weight_args nil u a = omega arith
  weight_args (cons e es) u a = simp (weight-append, length-append) (omega (arith, weight_expr e u a, weight_args es u (a + size e)))

weight_proc : (u : SourceUnit) (a : ℕ) (q : Proc) → weight (code_proc u a q) ≤ 10 + 10 * length (row_expr q.body)
weight_proc u a q = simp weight-append (omega (arith, weight_expr q.body u (a + 6)))

weight_procs : (u : SourceUnit) (qs : List Proc) (a : ℕ) → weight (code_procs u a qs) ≤ 10 * length (row_procs qs)
weight_procs u [] a = omega arith
weight_procs u (q ∷ qs) a = rw (weight-append (code_proc u a q) (code_procs u (a + size_proc q) qs), length-append (row_expr q.body) (row_procs qs))
    (omega (arith, weight_proc u a q, weight_procs u qs (a + size_proc q)))

length_offers : (u : SourceUnit) (os : List ℕ) → length (row_offers (offers_of u os)) ≡ 3 * length os
length_offers u [] = refl
length_offers u (o ∷ os) = omega (arith, length_offers u os)

pub short_row : (s : List ℕ) (u : SourceUnit) → UnitRow s u → length (row_object (object u)) ≤ 10 * length s + 6
short_row s u r = simp length-append (omega (arith, row_length s u r, weight_procs u u.procs 0, row_weight 0 (code_unit u), length_offers u u.offers))
