-- Expressions one behind the other, and one more behind them.
use Rattle.std.proofs.Common.{◌≡◌, ℕ, ◌+◌, ◌≤◌, max, T, ◌++◌, sym, ap, ◌∙◌, refl, arith}
use Rattle.std.proofs.lemmas.List.{append-nil, append_assoc}
use Rattle.rows.specs.Units.{Expr, Exprs, nil, cons, count, SourceUnit}
use Rattle.rows.specs.Formed.{formed, formed_args, depth, depths}
use Rattle.rows.specs.Frames.{height, heights}
use Rattle.rows.specs.UnitRows.{row_expr, row_exprs}
use Rattle.rows.proofs.Decided.{T-parts, T-both}
use Rattle.compiler.specs.Code.{size, size_args, code_expr, code_args}
use Rattle.compiler.proofs.CodeParts.{height_some}

abbrev pub push : Exprs → Expr → Exprs
push nil e = cons e nil
push (cons x es) e = cons x (push es e)

pub count-push : (es : Exprs) (e : Expr) → count (push es e) ≡ count es + 1
count-push nil e = refl
count-push (cons x es) e = omega (arith, count-push es e)

pub row-push : (es : Exprs) (e : Expr) → row_exprs (push es e) ≡ row_exprs es ++ row_expr e
row-push nil e = append-nil (row_expr e)
row-push (cons x es) e = ap (λ s. row_expr x ++ s) (row-push es e) ∙ sym (append_assoc (row_expr x) (row_exprs es) (row_expr e))

pub heights-push : (es : Exprs) (e : Expr) → heights (push es e) ≡ max (heights es) (count es + height e)
heights-push nil e = omega (arith, height_some e)
heights-push (cons x es) e = omega (arith, heights-push es e)

pub depths-push : (d : ℕ) (es : Exprs) (e : Expr) → depths es ≤ d → depth e ≤ d → depths (push es e) ≤ d
depths-push d nil e h k = omega (arith, k)
depths-push d (cons x es) e h k = omega (arith, h, depths-push d es e (omega (arith, h)) k)

module _ (u : SourceUnit) (k : ℕ) where
  pub formed-push : (es : Exprs) (e : Expr) → T (formed_args u k es) → T (formed u k e) → T (formed_args u k (push es e))
  formed-push nil e h t = T-both (formed u k e) (formed_args u k nil) t tt
  formed-push (cons x es) e h t =
      let hs = T-parts (formed u k x) (formed_args u k es) h in
      T-both (formed u k x) (formed_args u k (push es e)) hs.0 (formed-push es e hs.1 t)

  pub push-formed : (es : Exprs) (e : Expr) → T (formed_args u k (push es e)) → T (formed_args u k es) × T (formed u k e)
  push-formed nil e h = (tt, (T-parts (formed u k e) (formed_args u k nil) h).0)
  push-formed (cons x es) e h =
      let hs = T-parts (formed u k x) (formed_args u k (push es e)) h in
      let r = push-formed es e hs.1 in
      (T-both (formed u k x) (formed_args u k es) hs.0 r.0, r.1)

pub code-push : (u : SourceUnit) (a b : ℕ) (es : Exprs) (e : Expr) → b ≡ a + size_args es → code_args u a (push es e) ≡ code_args u a es ++ code_expr u b e
code-push u a b nil e is = let z : a ≡ b = omega arith in append-nil (code_expr u a e) ∙ ap (λ n. code_expr u n e) z
code-push u a b (cons x es) e is =
    ap (λ s. code_expr u a x ++ s) (code-push u (a + size x) b es e (omega (arith, is))) ∙ sym (append_assoc (code_expr u a x) (code_args u (a + size x) es) (code_expr u b e))
