-- An expression at the front of a row, read as its sign and then its parts, and parts one behind the other.
use Rattle.std.proofs.Common.{◌≡◌, ℕ, suc, ◌+◌, true, false, T, List, ◌++◌, drop, Some, None, sym, refl, ap, ◌∙◌, subst, ap₂, arith}
use Rattle.std.proofs.lemmas.List.{append_assoc, length-append, length-drop, drop-drop}
use Rattle.rows.specs.Units.{Expr, Exprs, nil, cons, count, SourceUnit}
use Rattle.rows.specs.Formed.{formed, formed_args}
use Rattle.rows.specs.UnitRows.{row_expr, row_exprs}
use Rattle.rows.specs.Signs.{row_sign, part_count, sign_of, parts, SignSays}
use Rattle.rows.specs.RowFronts.{Begins, FrontSays}
use Rattle.rows.specs.Bodies.{allowed, Right, RightParts}
use Rattle.rows.specs.declared.signs.Sign.{Sign}
use Rattle.rows.proofs.Decided.{T-parts, T-both, true_T}
use Rattle.rows.proofs.ExprParts.{row_parts, node, made}
use Rattle.rows.proofs.SignFronts.{one_sign}
use Rattle.rows.proofs.OneExpr.{sign_first, one_expr}
use Rattle.rows.proofs.RightParts.{depth_parts, sign_right, parts_right, node_right}

-- the sign that is read off a row in front of which an expression stands is the expression's, and its parts stand behind it
pub sign_read : (row rest : List ℕ) (e : Expr) (s : Sign) (n : ℕ) → Begins row n (row_sign s) → row ≡ row_expr e ++ rest → (s ≡ sign_of e) × (drop n row ≡ row_exprs (parts e) ++ rest)
sign_read row rest e s n h q = one_sign s (sign_of e) (drop n row) (row_exprs (parts e) ++ rest) (sym h.begins ∙ (q ∙ sign_first e rest))

-- what stands one behind the other
pub begins_joined : {row : List ℕ} {n m : ℕ} (xs ys : List ℕ) → Begins row n xs → Begins (drop n row) m ys → Begins row (n + m) (xs ++ ys)
begins_joined {row} {n} {m} xs ys h k = record {
  inside = omega (arith, h.inside, simp length-drop at k.inside);
  size = simp length-append (omega (arith, h.size, k.size));
  begins = h.begins ∙ (ap (λ zs. xs ++ zs) (k.begins ∙ ap (λ zs. ys ++ zs) (drop-drop m n row)) ∙ sym (append_assoc xs ys (drop (n + m) row)));
}

pub row_node : (s : Sign) (es : Exprs) → count es ≡ part_count s → row_expr (node s es) ≡ row_sign s ++ row_exprs es
row_node s es c = row_parts (node s es) ∙ ap₂ (λ t fs. row_sign t ++ row_exprs fs) (made s es c).sign (made s es c).parts

module _ (u : SourceUnit) (k d : ℕ) (row : List ℕ) where
  pub too_deep : d ≡ 0 → FrontSays row_expr (Right u k d) row None
  too_deep z e rest h q = omega (arith, depth_parts e, h.deep)

  pub no_sign : SignSays row None → FrontSays row_expr (Right u k d) row None
  no_sign s e rest h q = s (sign_of e) (row_exprs (parts e) ++ rest) (q ∙ sign_first e rest)

module _ (u : SourceUnit) (k d : ℕ) (row : List ℕ) (s : Sign) (n : ℕ) (says : Begins row n (row_sign s)) where
  pub not_allowed : allowed u k s ≡ false → FrontSays row_expr (Right u k d) row None
  not_allowed a e rest h q =
      let p = (sign_read row rest e s n says q).0 in
      subst T (ap (allowed u k) (sym p) ∙ a) (sign_right u k d e h)

  -- what is behind the sign, and one less deep
  module _ (d' l : ℕ) (behind : List ℕ) (less : d ≡ suc d') (asked : l ≡ part_count s) (is : behind ≡ drop n row) where
    pub no_parts : FrontSays row_exprs (RightParts u k d' l) behind None → FrontSays row_expr (Right u k d) row None
    no_parts f e rest h q =
        let p = sign_read row rest e s n says q in
        f (parts e) rest (rw (asked, p.0) (parts_right u k d' e (rw less at h))) (is ∙ p.1)

    pub with_parts : (m : ℕ) → allowed u k s ≡ true → FrontSays row_exprs (RightParts u k d' l) behind (Some m) → FrontSays row_expr (Right u k d) row (Some (n + m))
    with_parts m a f =
        let es = f.0 in
        let right = rw asked at f.1 in
        rw less (node s es, node_right u k d' s es (true_T (allowed u k s) a) right, rw (row_node s es right.count) (begins_joined (row_sign s) (row_exprs es) says (rw is at f.2)))

module _ (u : SourceUnit) (k d : ℕ) (row : List ℕ) (n : ℕ) where
  pub none_left : n ≡ 0 → FrontSays row_exprs (RightParts u k d n) row (Some 0)
  none_left z = (nil, record { count = sym z; deep = omega arith; formed = tt }, record { inside = omega arith; size = refl; begins = refl })

  pub no_first : (n ≡ 0 → ⊥) → FrontSays row_expr (Right u k d) row None → FrontSays row_exprs (RightParts u k d n) row None
  no_first z f nil rest h q = omega (arith, h.count)
  no_first z f (cons e es) rest h q =
      let t = T-parts (formed u k e) (formed_args u k es) h.formed in
      f e (row_exprs es ++ rest) (record { deep = omega (arith, h.deep); formed = t.0 }) (q ∙ append_assoc (row_expr e) (row_exprs es) rest)

-- one expression, and n' more behind it
module _ (u : SourceUnit) (k d : ℕ) (row : List ℕ) (n n' : ℕ) (behind : List ℕ) (m : ℕ) (less : n ≡ suc n') (is : behind ≡ drop m row) (first : FrontSays row_expr (Right u k d) row (Some m)) where
  pub no_rest : FrontSays row_exprs (RightParts u k d n') behind None → FrontSays row_exprs (RightParts u k d n) row None
  no_rest f nil rest h q = omega (arith, h.count)
  no_rest f (cons e es) rest h q =
      let t = T-parts (formed u k e) (formed_args u k es) h.formed in
      let o = one_expr first.0 e (drop m row) (row_exprs es ++ rest) (sym first.2.begins ∙ (q ∙ append_assoc (row_expr e) (row_exprs es) rest)) in
      f es rest (record { count = omega (arith, h.count); deep = omega (arith, h.deep); formed = t.1 }) (is ∙ o.1)

  pub with_rest : (l : ℕ) → FrontSays row_exprs (RightParts u k d n') behind (Some l) → FrontSays row_exprs (RightParts u k d n) row (Some (m + l))
  with_rest l f = (cons first.0 f.0, both first.0 f.0 first.1 f.1, begins_joined (row_expr first.0) (row_exprs f.0) first.2 (rw is at f.2))
    where
      both : (e : Expr) (es : Exprs) → Right u k d e → RightParts u k d n' es → RightParts u k d n (cons e es)
      both e es g h = record { count = omega (arith, h.count); deep = omega (arith, h.deep, g.deep); formed = T-both (formed u k e) (formed_args u k es) g.formed h.formed }
