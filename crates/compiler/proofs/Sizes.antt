-- The size of an expression's code, counted sign by sign.
use Rattle.std.proofs.Common.{◌≡◌, ℕ, suc, ◌+◌, ◌-◌, ◌*◌, ◌<◌, ◌≤◌, List, ◌++◌, length, drop, None, sym, refl, ap, ◌∙◌, arith}
use Rattle.std.proofs.lemmas.List.{append-nil, append_assoc, length-drop}
use Rattle.rows.specs.Units.{Expr, num, arg, word, op, if, keep, then, out, next, call, Exprs, nil, cons, count}
use Rattle.rows.specs.UnitRows.{row_expr, row_exprs}
use Rattle.rows.specs.Signs.{row_sign, part_count, sign_of, parts, SignSays}
use Rattle.rows.specs.RowFronts.{Begins}
use Rattle.rows.specs.declared.signs.Sign.{Sign}
use Rattle.rows.specs.declared.signs.Sign.TheVariants.{Number, Argument, Word, Operation, If, Keep, Then, Out, Next, Call}
use Rattle.rows.proofs.ExprParts.{count_parts}
use Rattle.rows.proofs.BodyReading.{sign_read}
use Rattle.rows.proofs.Skipping.{join, count_join, row_join, Pending, one_pending, parts_pending, none_skipped, too_short, all_skipped}
use Rattle.compiler.specs.Code.{size, size_args}
use Rattle.compiler.specs.Measuring.{own_size, Sized, SizeSays}

-- the code of an expression is that of its parts and its sign's own
size_parts : (e : Expr) → size e ≡ size_args (parts e) + own_size (sign_of e)
size_parts (num n) = refl
size_parts (arg i) = refl
size_parts (word i) = refl
size_parts (op o x y) = omega arith
size_parts (if c x y) = omega arith
size_parts (keep i e) = omega arith
size_parts (then x y) = omega arith
size_parts (out e) = omega arith
size_parts next = refl
size_parts (call c es) = omega arith

size_join : (es fs : Exprs) → size_args (join es fs) ≡ size_args es + size_args fs
size_join nil fs = omega arith
size_join (cons e es) fs = omega (arith, size_join es fs)

-- a sign adds at most four words of code for each of its own
own_small : (s : Sign) → own_size s ≤ 4 * length (row_sign s)
own_small (Number n) = omega arith
own_small (Argument i) = omega arith
own_small (Word i) = omega arith
own_small (Operation o) = omega arith
own_small If = omega arith
own_small (Keep i) = omega arith
own_small Then = omega arith
own_small Out = omega arith
own_small Next = omega arith
own_small (Call c n) = omega arith

-- of expression e some signs have been counted, with so many words of code, and n expressions are still to come before rest
pub record Todo (e : Expr) (left rest : List ℕ) (n done : ℕ) : Type 0 where
  pub todo : Exprs
  pub says : left ≡ row_exprs todo ++ rest
  pub count : count todo ≡ n
  pub size : done + size_args todo ≡ size e

-- so far with whichever expression stands at the front of the row
pub record Counted (row left : List ℕ) (n done : ℕ) : Type 0 where
  pub pending : Pending row left n
  pub sized : (e : Expr) (rest : List ℕ) → row ≡ row_expr e ++ rest → Todo e left rest n done
  pub small : done + 4 * length left ≤ 4 * length row

pub none_counted : (row : List ℕ) → Counted row row 1 0
none_counted row = record {
  pending = one_pending row;
  sized = λ e rest q. record { todo = cons e nil; says = q ∙ ap (λ s. s ++ rest) (sym (append-nil (row_expr e))); count = refl; size = omega arith };
  small = omega arith;
}

-- the next sign
module _ (row left : List ℕ) (n n' done : ℕ) (more : n ≡ suc n') (so_far : Counted row left n done) where
  pub counted_more : (s : Sign) (taken l m : ℕ) (behind : List ℕ) → Begins left taken (row_sign s) → l ≡ part_count s → m ≡ own_size s → behind ≡ drop taken left → Counted row behind (n' + l) (done + m)
  counted_more s taken l m behind signed asked own is = record {
    pending = parts_pending row left n n' more so_far.pending s taken l behind signed asked is;
    sized = λ e rest q. next_sign e rest (so_far.sized e rest q);
    small = omega (arith, so_far.small, ap (λ (xs : List ℕ). length xs) is, length-drop taken left, signed.inside, signed.size, own_small s);
  }
    where
      next_sign : (e : Expr) (rest : List ℕ) → Todo e left rest n done → Todo e behind rest (n' + l) (done + m)
      next_sign e rest h = go h.todo h.says h.count h.size
        where
          go : (es : Exprs) → left ≡ row_exprs es ++ rest → count es ≡ n → done + size_args es ≡ size e → Todo e behind rest (n' + l) (done + m)
          go nil q c z = absurd (omega arith)
          go (cons f es) q c z =
              let p = sign_read left (row_exprs es ++ rest) f s taken signed (q ∙ append_assoc (row_expr f) (row_exprs es) rest) in
              record {
                todo = join (parts f) es;
                says = is ∙ (p.1 ∙ sym (row_join (parts f) es rest));
                count = omega (arith, count_join (parts f) es, count_parts f, ap part_count p.0);
                size = omega (arith, size_join (parts f) es, size_parts f, ap own_size p.0);
              }

  pub none_sized : SignSays left None → SizeSays row None
  none_sized none e rest q = none_skipped row left n n' more so_far.pending none e rest tt q

pub too_few : (row left : List ℕ) (n done : ℕ) → Counted row left n done → length left < n → SizeSays row None
too_few row left n done h short e rest q = too_short row left n h.pending short e rest tt q

-- all signs
pub counted_all : (row left : List ℕ) (n done : ℕ) → n ≡ 0 → Counted row left n done → Sized row (length row - length left) done
counted_all row left n done none h =
    let f = all_skipped row left n none h.pending in
    record { expr = f.0; begins = f.2; size = finished f.0 (h.sized f.0 _ f.2.begins) }
  where
    finished : (e : Expr) {rest : List ℕ} → Todo e left rest n done → done ≡ size e
    finished e t = go t.todo t.count t.size
      where
        go : (es : Exprs) → count es ≡ n → done + size_args es ≡ size e → done ≡ size e
        go nil c s = omega arith
        go (cons f es) c s = absurd (omega arith)
