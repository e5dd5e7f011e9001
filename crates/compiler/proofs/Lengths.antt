-- How long code is, measured by the unit's row.
use Rattle.std.proofs.Common.{◌≡◌, ℕ, zero, suc, ◌+◌, ◌*◌, ◌≤◌, List, [], ◌∷◌, length, sym, refl, ap, ◌∙◌, arith, length-append}
use Rattle.rows.specs.Units.{Expr, num, arg, word, op, if, keep, then, out, next, call, Exprs, nil, cons, Proc, SourceUnit}
use Rattle.rows.specs.Frames.{height, heights}
use Rattle.rows.specs.UnitRows.{row_expr, row_exprs, row_wants, row_procs, UnitRow}
use Rattle.compiler.specs.Instructions.{code_words}
use Rattle.compiler.specs.Code.{size, size_args, size_proc, proc_at, code_procs, code_proc}
use Rattle.compiler.proofs.Lying.{length_words_append}
use Rattle.compiler.proofs.Units.{length_proc}

pub row_there : (e : Expr) → 1 ≤ length (row_expr e)
row_there (num n) = omega arith
row_there (arg j) = omega arith
row_there (word j) = omega arith
row_there (op o y z) = omega arith
row_there (if c y z) = omega arith
row_there (keep j e) = omega arith
row_there (then y z) = omega arith
row_there (out e) = omega arith
row_there next = omega arith
row_there (call c es) = omega arith

mutual
  pub height_row : (e : Expr) → height e ≤ length (row_expr e)
  height_row (num n) = omega arith
  height_row (arg j) = omega arith
  height_row (word j) = omega arith
  height_row (op o y z) = simp length-append (omega (arith, height_row y, height_row z))
  height_row (if c y z) = simp length-append (omega (arith, height_row c, height_row y, height_row z))
  height_row (keep j e) = omega (arith, height_row e)
  height_row (then y z) = simp length-append (omega (arith, height_row y, height_row z))
  height_row (out e) = omega (arith, height_row e)
  height_row next = omega arith
  height_row (call c es) = omega (arith, heights_row es)

  pub heights_row : (es : Exprs) → heights es ≤ length (row_exprs es)
  heights_row nil = omega arith
  heights_row (cons e es) = simp length-append (omega (arith, row_there e, height_row e, heights_row es))

mutual
  pub size_row : (e : Expr) → size e ≤ 4 * length (row_expr e)
  size_row (num n) = omega arith
  size_row (arg j) = omega arith
  size_row (word j) = omega arith
  size_row (op o y z) = simp length-append (omega (arith, size_row y, size_row z))
  size_row (if c y z) = simp length-append (omega (arith, size_row c, size_row y, size_row z))
  size_row (keep j e) = omega (arith, size_row e)
  size_row (then y z) = simp length-append (omega (arith, size_row y, size_row z))
  size_row (out e) = omega (arith, size_row e)
  size_row next = omega arith
  size_row (call c es) = omega (arith, size_args_row es)

  size_args_row : (es : Exprs) → size_args es ≤ 4 * length (row_exprs es)
  size_args_row nil = omega arith
  size_args_row (cons e es) = simp length-append (omega (arith, size_row e, size_args_row es))

-- the words of all procedures' code
abbrev pub size_procs : List Proc → ℕ
size_procs [] = 0
size_procs (q ∷ qs) = size_proc q + size_procs qs

pub length_procs : (u : SourceUnit) (b : ℕ) (qs : List Proc) → length (code_words (code_procs u b qs)) ≡ size_procs qs
length_procs u b [] = refl
length_procs u b (q ∷ qs) = rw (length_words_append (code_proc u b q) (code_procs u (b + size_proc q) qs), length_proc u b q, length_procs u (b + size_proc q) qs)

pub proc_at_most : (qs : List Proc) (n : ℕ) → proc_at qs n ≤ size_procs qs
proc_at_most [] n = omega arith
proc_at_most (q ∷ qs) zero = omega arith
proc_at_most (q ∷ qs) (suc n) = omega (arith, proc_at_most qs n)

pub size_procs_row : (qs : List Proc) → size_procs qs ≤ 10 * length (row_procs qs)
size_procs_row [] = omega arith
size_procs_row (q ∷ qs) = simp length-append (omega (arith, size_row q.body, size_procs_row qs))

pub row_length : (s : List ℕ) (u : SourceUnit) → UnitRow s u → length s ≡ 5 + (length (row_wants u.wants) + (length (row_procs u.procs) + length u.offers))
row_length s u r = sym (ap length r.row) ∙ simp length-append (omega arith)
