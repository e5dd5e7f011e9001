-- What the sign that is read off a row says of the expression that stands there: its shape, and where its parts stand.
use Rattle.std.proofs.Common.{◌≡◌, ℕ, List, ◌++◌, drop, None, sym, refl, ap, ◌∙◌, subst}
use Rattle.std.proofs.lemmas.List.{append-nil, append_assoc}
use Rattle.rows.specs.Units.{Expr, num, arg, word, op, if, keep, then, out, next, call, Exprs, nil, cons, count}
use Rattle.rows.specs.UnitRows.{row_expr, row_exprs}
use Rattle.rows.specs.RowFronts.{Begins}
use Rattle.rows.specs.Signs.{op_of, row_sign, sign_of, parts, SignSays}
use Rattle.rows.specs.declared.signs.Sign.{Sign}
use Rattle.rows.specs.declared.signs.Sign.TheVariants.{Number, Argument, Word, Operation, If, Keep, Then, Out, Next, Call}
use Rattle.rows.proofs.ExprParts.{op_of_sign}
use Rattle.rows.proofs.OneExpr.{sign_first}
use Rattle.rows.proofs.BodyReading.{sign_read}

-- the expression e has the sign s; behind the sign stand its parts and then rest
abbrev pub Shaped : Sign → Expr → List ℕ → List ℕ → Type 0
Shaped (Number n) e behind rest = (e ≡ num n) × (behind ≡ rest)
Shaped (Argument i) e behind rest = (e ≡ arg i) × (behind ≡ rest)
Shaped (Word i) e behind rest = (e ≡ word i) × (behind ≡ rest)
Shaped (Operation o) e behind rest = (a : Expr) × (b : Expr) × (e ≡ op (op_of o) a b) × (behind ≡ row_expr a ++ (row_expr b ++ rest))
Shaped If e behind rest = (c : Expr) × (a : Expr) × (b : Expr) × (e ≡ if c a b) × (behind ≡ row_expr c ++ (row_expr a ++ (row_expr b ++ rest)))
Shaped (Keep i) e behind rest = (a : Expr) × (e ≡ keep i a) × (behind ≡ row_expr a ++ rest)
Shaped Then e behind rest = (a : Expr) × (b : Expr) × (e ≡ then a b) × (behind ≡ row_expr a ++ (row_expr b ++ rest))
Shaped Out e behind rest = (a : Expr) × (e ≡ out a) × (behind ≡ row_expr a ++ rest)
Shaped Next e behind rest = (e ≡ next) × (behind ≡ rest)
Shaped (Call c n) e behind rest = (es : Exprs) × (e ≡ call c.0 es) × (count es ≡ n) × (behind ≡ row_exprs es ++ rest)

-- rows of one, two and three parts
one_part : (a : Expr) (rest : List ℕ) → row_exprs (cons a nil) ++ rest ≡ row_expr a ++ rest
one_part a rest = ap (λ s. s ++ rest) (append-nil (row_expr a))

one_more : (a : Expr) (es : Exprs) (rest behind : List ℕ) → row_exprs es ++ rest ≡ behind → row_exprs (cons a es) ++ rest ≡ row_expr a ++ behind
one_more a es rest behind e = append_assoc (row_expr a) (row_exprs es) rest ∙ ap (λ s. row_expr a ++ s) e

pub shaped : (e : Expr) (behind rest : List ℕ) → behind ≡ row_exprs (parts e) ++ rest → Shaped (sign_of e) e behind rest
shaped (num n) behind rest q = (refl, q)
shaped (arg i) behind rest q = (refl, q)
shaped (word i) behind rest q = (refl, q)
shaped (op o a b) behind rest q = (a, b, ap (λ p. op p a b) (sym (op_of_sign o)), q ∙ one_more a (cons b nil) rest (row_expr b ++ rest) (one_part b rest))
shaped (if c a b) behind rest q = (c, a, b, refl, q ∙ one_more c (cons a (cons b nil)) rest (row_expr a ++ (row_expr b ++ rest)) (one_more a (cons b nil) rest (row_expr b ++ rest) (one_part b rest)))
shaped (keep i e) behind rest q = (e, refl, q ∙ one_part e rest)
shaped (then a b) behind rest q = (a, b, refl, q ∙ one_more a (cons b nil) rest (row_expr b ++ rest) (one_part b rest))
shaped (out e) behind rest q = (e, refl, q ∙ one_part e rest)
shaped next behind rest q = (refl, q)
shaped (call c es) behind rest q = (es, refl, refl, q)

-- a sign that is read where an expression stands
module _ (row rest : List ℕ) (e : Expr) (stands : row ≡ row_expr e ++ rest) where
  pub shape_read : (s : Sign) (n : ℕ) → Begins row n (row_sign s) → Shaped s e (drop n row) rest
  shape_read s n h =
      let p = sign_read row rest e s n h stands in
      subst (λ t. Shaped t e (drop n row) rest) (sym p.0) (shaped e (drop n row) rest p.1)

  -- there is one
  pub sign_there : SignSays row None → ⊥
  sign_there none = none (sign_of e) (row_exprs (parts e) ++ rest) (stands ∙ sign_first e rest)
