-- At most one expression, and one list of so many, stands at the front of a row.
use Rattle.std.proofs.Common.{◌≡◌, ℕ, List, ◌++◌, sym, refl, ap, ◌∙◌, ap₂, arith}
use Rattle.std.proofs.lemmas.List.{append_assoc}
use Rattle.rows.specs.Units.{Expr, Exprs, nil, cons, count}
use Rattle.rows.specs.UnitRows.{row_expr, row_exprs}
use Rattle.rows.specs.Signs.{row_sign, part_count, sign_of, parts}
use Rattle.rows.proofs.ExprParts.{row_parts, count_parts, Each, by_parts, each_by_parts, node, node_of}
use Rattle.rows.proofs.SignFronts.{one_sign}

-- a row that begins with an expression begins with its sign, behind which stand its parts
pub sign_first : (e : Expr) (xs : List ℕ) → row_expr e ++ xs ≡ row_sign (sign_of e) ++ (row_exprs (parts e) ++ xs)
sign_first e xs = ap (λ s. s ++ xs) (row_parts e) ∙ append_assoc (row_sign (sign_of e)) (row_exprs (parts e)) xs

-- no other expression begins a row that begins with e
abbrev Alone : Expr → Type 0
Alone e = (f : Expr) (xs ys : List ℕ) → row_expr e ++ xs ≡ row_expr f ++ ys → (e ≡ f) × (xs ≡ ys)

alone_parts : (es fs : Exprs) (xs ys : List ℕ) → Each Alone es → count es ≡ count fs → row_exprs es ++ xs ≡ row_exprs fs ++ ys → (es ≡ fs) × (xs ≡ ys)
alone_parts nil nil xs ys h c q = (refl, q)
alone_parts nil (cons f fs) xs ys h c q = absurd (omega arith)
alone_parts (cons e es) nil xs ys h c q = absurd (omega arith)
alone_parts (cons e es) (cons f fs) xs ys h c q =
    let first = h.0 f (row_exprs es ++ xs) (row_exprs fs ++ ys) (sym (append_assoc (row_expr e) (row_exprs es) xs) ∙ (q ∙ append_assoc (row_expr f) (row_exprs fs) ys)) in
    let rest = alone_parts es fs xs ys h.1 (omega arith) first.1 in
    (ap₂ cons first.0 rest.0, rest.1)

alone_by_parts : (e : Expr) → Each Alone (parts e) → Alone e
alone_by_parts e h f xs ys q =
    let s = one_sign (sign_of e) (sign_of f) (row_exprs (parts e) ++ xs) (row_exprs (parts f) ++ ys) (sym (sign_first e xs) ∙ (q ∙ sign_first f ys)) in
    let p = alone_parts (parts e) (parts f) xs ys h (count_parts e ∙ (ap part_count s.0 ∙ sym (count_parts f))) s.1 in
    (sym (node_of e) ∙ (ap₂ node s.0 p.0 ∙ node_of f), p.1)

pub one_expr : (e f : Expr) (xs ys : List ℕ) → row_expr e ++ xs ≡ row_expr f ++ ys → (e ≡ f) × (xs ≡ ys)
one_expr e = by_parts Alone alone_by_parts e

pub one_exprs : (es fs : Exprs) (xs ys : List ℕ) → count es ≡ count fs → row_exprs es ++ xs ≡ row_exprs fs ++ ys → (es ≡ fs) × (xs ≡ ys)
one_exprs es fs xs ys = alone_parts es fs xs ys (each_by_parts Alone alone_by_parts es)
