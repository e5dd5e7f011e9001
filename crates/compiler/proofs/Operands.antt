-- Operands are words, and wants that fits name are there.
use Rattle.std.proofs.Common.{◌≡◌, ℕ, suc, ◌+◌, ◌-◌, ◌^◌, ◌<◌, ◌≤◌, Bool, true, false, cond, ◌&&◌, T, ltb, leb, List, [], ◌∷◌, ◌++◌, length, refl, arith, ltb→lt, leb→le, length-append}
use Rattle.std.proofs.lemmas.Bool.{ltb-true}
use Rattle.rows.specs.Operations.{Op, Add, Sub, Mul, Div, Less, Same, number}
use Rattle.rows.specs.Units.{Expr, num, arg, word, op, if, keep, then, out, next, call, Exprs, nil, cons, count, Proc, SourceUnit, arity}
use Rattle.rows.specs.Frames.{height, frame}
use Rattle.rows.specs.Formed.{takes, formed, formed_args, formed_procs, depth}
use Rattle.rows.specs.UnitRows.{row_expr, row_procs, small_procs}
use Rattle.compiler.specs.Instructions.{Operand, plain, in_code, in_words, of_want, Instruction, instr}
use Rattle.compiler.specs.Code.{size, size_args, size_proc, proc_at, callee, code_expr, code_args, code_proc, code_procs}
use Rattle.rows.proofs.Decided.{T-parts}
use Rattle.compiler.proofs.Lengths.{height_row, size_procs}

-- a number is a word, and one of k wants is named
abbrev pub Sane : ℕ → Operand → Type 0
Sane k (plain n) = n < 2 ^ 32
Sane k (in_code a) = a < 2 ^ 32
Sane k (in_words i) = i < 2 ^ 32
Sane k (of_want n) = n < k

abbrev pub AllSane : ℕ → List Instruction → Type 0
AllSane k [] = Unit {0}
AllSane k (instr o x ∷ is) = Sane k x × AllSane k is

both_sane : (k : ℕ) (is js : List Instruction) → AllSane k is → AllSane k js → AllSane k (is ++ js)
both_sane k [] js h g = g
both_sane k (instr o x ∷ is) js h g = (h.0, both_sane k is js h.1 g)

number_small : (o : Op) → number o < 2 ^ 32
number_small Add = omega arith
number_small Sub = omega arith
number_small Mul = omega arith
number_small Div = omega arith
number_small Less = omega arith
number_small Same = omega arith

module _ (u : SourceUnit) (words : u.words ≤ 4096) (procs : (n : ℕ) → proc_at u.procs n < 2 ^ 32) where
  callee_sane : (c : ℕ) → Sane (length u.wants) (callee u c)
  callee_sane c = go (ltb c (length u.wants)) refl
    where
      go : (b : Bool) → ltb c (length u.wants) ≡ b → Sane (length u.wants) (cond b (of_want c) (in_code (proc_at u.procs (c - length u.wants))))
      go true e = ltb-true c (length u.wants) e
      go false e = procs (c - length u.wants)

  module _ (k : ℕ) (few : k ≤ 8) where
    mutual
      expr_sane : (e : Expr) (a : ℕ) → T (formed u k e) → a + size e < 2 ^ 32 → AllSane (length u.wants) (code_expr u a e)
      expr_sane (num n) a f b = (ltb→lt n (2 ^ 32) f, tt)
      expr_sane (arg j) a f b = (omega (arith, ltb→lt j k f), tt)
      expr_sane (word j) a f b = (omega (arith, ltb→lt j u.words f), tt)
      expr_sane (op o y z) a f b =
          let r = T-parts (formed u k y) (formed u k z) f in
          both_sane (length u.wants) (code_expr u a y) _ (expr_sane y a r.0 (omega arith))
          (both_sane (length u.wants) (code_expr u (a + size y) z) _ (expr_sane z (a + size y) r.1 (omega arith)) (number_small o, tt))
      expr_sane (if c y z) a f b =
          let r = T-parts (formed u k c) (formed u k y && formed u k z) f in
          let t = T-parts (formed u k y) (formed u k z) r.1 in
          both_sane (length u.wants) (code_expr u a c) _ (expr_sane c a r.0 (omega arith)) (
            omega arith,
            both_sane (length u.wants) (code_expr u (a + size c + 2) y) _ (expr_sane y (a + size c + 2) t.0 (omega arith)) (
              omega arith,
              expr_sane z (a + size c + 2 + size y + 2) t.1 (omega arith),
            ),
          )
      expr_sane (keep j e) a f b =
          let r = T-parts (ltb j u.words) (formed u k e) f in
          both_sane (length u.wants) (code_expr u a e) _ (expr_sane e a r.1 (omega arith)) (omega (arith, ltb→lt j u.words r.0), tt)
      expr_sane (then y z) a f b =
          let r = T-parts (formed u k y) (formed u k z) f in
          both_sane (length u.wants) (code_expr u a y) _ (expr_sane y a r.0 (omega arith)) (omega arith, expr_sane z (a + size y + 2) r.1 (omega arith))
      expr_sane (out e) a f b = both_sane (length u.wants) (code_expr u a e) _ (expr_sane e a f (omega arith)) (omega arith, tt)
      expr_sane next a f b = (omega arith, tt)
      expr_sane (call c es) a f b =
          let r = T-parts (takes (arity u c) (count es)) (formed_args u k es) f in
          both_sane (length u.wants) (code_args u a es) _ (args_sane es a r.1 (omega arith)) (callee_sane c, tt)

      args_sane : (es : Exprs) (a : ℕ) → T (formed_args u k es) → a + size_args es < 2 ^ 32 → AllSane (length u.wants) (code_args u a es)
      args_sane nil a f b = tt
      args_sane (cons e es) a f b =
          let r = T-parts (formed u k e) (formed_args u k es) f in
          both_sane (length u.wants) (code_expr u a e) _ (expr_sane e a r.0 (omega arith)) (args_sane es (a + size e) r.1 (omega arith))

  proc_sane : (q : Proc) (a : ℕ) → T (formed u q.args q.body) → q.args ≤ 8 → height q.body ≤ 65536 → a + size_proc q < 2 ^ 32 → AllSane (length u.wants) (code_proc u a q)
  proc_sane q a f few low b =
      let frame_small : frame q < 2 ^ 32 = omega arith in
      let args_small : q.args < 2 ^ 32 = omega arith in (
        omega arith,
        (
          frame_small,
          (
            args_small,
            both_sane (length u.wants) (code_expr u (a + 6) q.body) _
                (expr_sane q.args few q.body (a + 6) f (omega arith)) (frame_small, (args_small, tt)),
          ),
        ),
      )

  pub procs_sane : (qs : List Proc) (a : ℕ) → T (formed_procs u qs) → T (small_procs qs) → length (row_procs qs) ≤ 65536 → a + size_procs qs < 2 ^ 32 →
      AllSane (length u.wants) (code_procs u a qs)
  procs_sane [] a f s b c = tt
  procs_sane (q ∷ qs) a f s b c =
      let r = T-parts (formed u q.args q.body) (formed_procs u qs) f in
      let t = T-parts (leb q.args 8) (leb (depth q.body) 256 && small_procs qs) s in
      let rows : suc (length (row_expr q.body) + length (row_procs qs)) ≤ 65536 = simp length-append at b in
      both_sane (length u.wants) (code_proc u a q) (code_procs u (a + size_proc q) qs)
      (proc_sane q a r.0 (leb→le q.args 8 t.0) (omega (arith, height_row q.body)) (omega arith))
      (procs_sane qs (a + size_proc q) r.1 (T-parts (leb (depth q.body) 256) (small_procs qs) t.1).1 (omega arith) (omega arith))
