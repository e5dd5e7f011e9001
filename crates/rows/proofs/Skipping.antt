-- Skipping an expression sign by sign: the parts of each join the expressions that are still to come.
use Rattle.std.proofs.Common.{◌≡◌, ℕ, zero, suc, ◌+◌, ◌-◌, ◌<◌, ◌≤◌, List, ◌++◌, length, drop, Some, None, sym, refl, ap, ◌∙◌, arith}
use Rattle.std.proofs.lemmas.List.{append-nil, append_assoc, length-append, length-drop, drop_at}
use Rattle.rows.specs.Units.{Expr, Exprs, nil, cons, count}
use Rattle.rows.specs.UnitRows.{row_expr, row_exprs}
use Rattle.rows.specs.Signs.{row_sign, part_count, sign_of, parts, SignSays}
use Rattle.rows.specs.RowFronts.{Begins, FrontSays}
use Rattle.rows.specs.Bodies.{Any}
use Rattle.rows.specs.declared.signs.Sign.{Sign}
use Rattle.rows.proofs.ExprParts.{sign_some, row_parts, count_parts, node}
use Rattle.rows.proofs.OneExpr.{sign_first}
use Rattle.rows.proofs.BodyReading.{sign_read, row_node}

-- expressions one behind the other
abbrev pub join : Exprs → Exprs → Exprs
join nil fs = fs
join (cons e es) fs = cons e (join es fs)

pub count_join : (es fs : Exprs) → count (join es fs) ≡ count es + count fs
count_join nil fs = omega arith
count_join (cons e es) fs = omega (arith, count_join es fs)

pub row_join : (es fs : Exprs) (rest : List ℕ) → row_exprs (join es fs) ++ rest ≡ row_exprs es ++ (row_exprs fs ++ rest)
row_join nil fs rest = refl
row_join (cons e es) fs rest = append_assoc (row_expr e) (row_exprs (join es fs)) rest ∙ (ap (λ s. row_expr e ++ s) (row_join es fs rest) ∙ sym (append_assoc (row_expr e) (row_exprs es) (row_exprs fs ++ rest)))

pub record Split (es : Exprs) (n : ℕ) : Type 0 where
  pub front : Exprs
  pub back : Exprs
  pub joined : join front back ≡ es
  pub count : count front ≡ n

pub split : (es : Exprs) (n : ℕ) → n ≤ count es → Split es n
split es zero h = record { front = nil; back = es; joined = refl; count = refl }
split nil (suc n) h = absurd (omega arith)
split (cons e es) (suc n) h =
    let s = split es n (omega arith) in
    record { front = cons e s.front; back = s.back; joined = ap (cons e) s.joined; count = omega (arith, s.count) }

-- the row is an expression, or n of them, and then rest
abbrev One : List ℕ → List ℕ → Type 0
One row rest = (e : Expr) × (row ≡ row_expr e ++ rest)

abbrev Several : ℕ → List ℕ → List ℕ → Type 0
Several n row rest = (es : Exprs) × (count es ≡ n) × (row ≡ row_exprs es ++ rest)

-- a sign stands in front of n expressions exactly if its parts and n less one stand behind it
module _ (row : List ℕ) (s : Sign) (size : ℕ) (signed : Begins row size (row_sign s)) (rest : List ℕ) where
  behind_sign : (n : ℕ) → Several (suc n) row rest → Several (n + part_count s) (drop size row) rest
  behind_sign n (nil, c, q) = absurd (omega arith)
  behind_sign n (cons e es, c, q) =
      let p = sign_read row (row_exprs es ++ rest) e s size signed (q ∙ append_assoc (row_expr e) (row_exprs es) rest) in
      (join (parts e) es, omega (arith, count_join (parts e) es, count_parts e, ap part_count p.0), p.1 ∙ sym (row_join (parts e) es rest))

  before_sign : (n : ℕ) → Several (n + part_count s) (drop size row) rest → Several (suc n) row rest
  before_sign n (es, c, q) = go (split es (part_count s) (omega arith))
    where
      go : Split es (part_count s) → Several (suc n) row rest
      go h =
          let fs = h.front in
          let gs = h.back in
          let split_row : row_exprs es ++ rest ≡ row_exprs fs ++ (row_exprs gs ++ rest) = ap (λ x. row_exprs x ++ rest) (sym h.joined) ∙ row_join fs gs rest in
          let NodeRow = row_node s fs h.count in (
            cons (node s fs) gs,
            omega (arith, count_join fs gs, ap count h.joined, h.count),
            signed.begins ∙ (ap (λ x. row_sign s ++ x) (q ∙ split_row) ∙ (sym (append_assoc (row_sign s) (row_exprs fs) (row_exprs gs ++ rest)) ∙ (ap (λ x. x ++ (row_exprs gs ++ rest)) (sym NodeRow) ∙ sym (append_assoc (row_expr (node s fs)) (row_exprs gs) rest)))),
          )

-- n expressions are still to come of one that stands in front of the row; left is what is behind those that have come
pub record Pending (row left : List ℕ) (n : ℕ) : Type 0 where
  pub into : (rest : List ℕ) → One row rest → Several n left rest
  pub back : (rest : List ℕ) → Several n left rest → One row rest
  pub shorter : length left ≤ length row

pub one_pending : (row : List ℕ) → Pending row row 1
one_pending row = record {
  into = λ rest h. (cons h.0 nil, refl, h.1 ∙ ap (λ s. s ++ rest) (sym (append-nil (row_expr h.0))));
  back = only;
  shorter = omega arith;
}
  where
    only : (rest : List ℕ) → Several 1 row rest → One row rest
    only rest (nil, c, q) = absurd (omega arith)
    only rest (cons e nil, c, q) = (e, q ∙ ap (λ s. s ++ rest) (append-nil (row_expr e)))
    only rest (cons e (cons f es), c, q) = absurd (omega arith)

module _ (row left : List ℕ) (n n' : ℕ) (more : n ≡ suc n') (pending : Pending row left n) where
  pub parts_pending : (s : Sign) (size l : ℕ) (behind : List ℕ) → Begins left size (row_sign s) → l ≡ part_count s → behind ≡ drop size left → Pending row behind (n' + l)
  parts_pending s size l behind signed asked is = rw (asked, is) (record {
    into = λ rest h. behind_sign left s size signed rest n' (rw more at (pending.into rest h));
    back = λ rest h. pending.back rest (rw more (before_sign left s size signed rest n' h));
    shorter = simp length-drop (omega (arith, pending.shorter));
  })

  pub none_skipped : SignSays left None → FrontSays row_expr Any row None
  none_skipped f e rest ok q = go (pending.into rest (e, q))
    where
      go : Several n left rest → ⊥
      go (nil, c, p) = omega arith
      go (cons g gs, c, p) = f (sign_of g) (row_exprs (parts g) ++ (row_exprs gs ++ rest)) (p ∙ (append_assoc (row_expr g) (row_exprs gs) rest ∙ sign_first g (row_exprs gs ++ rest)))

-- an expression is a word or more
some_words : (es : Exprs) → count es ≤ length (row_exprs es)
some_words nil = omega arith
some_words (cons e es) =
    let first : 1 ≤ length (row_expr e) = rw (row_parts e) (simp length-append (omega (arith, sign_some (sign_of e)))) in
    simp length-append (omega (arith, some_words es))

pub too_short : (row left : List ℕ) (n : ℕ) → Pending row left n → length left < n → FrontSays row_expr Any row None
too_short row left n pending short e rest ok q =
    let h = pending.into rest (e, q) in
    omega (arith, h.1, some_words h.0, simp length-append at (ap length h.2))

pub all_skipped : (row left : List ℕ) (n : ℕ) → n ≡ 0 → Pending row left n → FrontSays row_expr Any row (Some (length row - length left))
all_skipped row left n z pending =
    let o = pending.back left (nil, sym z, refl) in
    let size : length row - length left ≡ length (row_expr o.0) = omega (arith, simp length-append at (ap length o.1)) in (
      o.0,
      tt,
      record {
        inside = omega arith;
        size = size;
        begins = o.1 ∙ ap (λ s. row_expr o.0 ++ s) (sym (ap (drop (length row - length left)) o.1 ∙ drop_at (row_expr o.0) left _ (sym size)));
      },
    )
