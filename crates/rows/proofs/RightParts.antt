-- An expression is right if its sign is allowed and its parts are right and one less deep.
use Rattle.std.proofs.Common.{◌≡◌, ℕ, suc, Bool, true, false, ◌&&◌, T, ltb, sym, refl, ap, arith}
use Rattle.rows.specs.Units.{Expr, num, arg, word, op, if, keep, then, out, next, call, Exprs, SourceUnit}
use Rattle.rows.specs.Formed.{formed, formed_args, depth, depths}
use Rattle.rows.specs.Signs.{part_count, sign_of, parts}
use Rattle.rows.specs.Bodies.{allowed, Right, RightParts}
use Rattle.rows.specs.declared.signs.Sign.{Sign}
use Rattle.rows.proofs.Decided.{T-parts, T-both}
use Rattle.rows.proofs.ExprParts.{count_parts, node, made}

and_true : (b : Bool) → (b && true) ≡ b
and_true true = refl
and_true false = refl

pub depth_parts : (e : Expr) → depth e ≡ suc (depths (parts e))
depth_parts (num n) = refl
depth_parts (arg i) = refl
depth_parts (word i) = refl
depth_parts (op o a b) = omega arith
depth_parts (if c a b) = omega arith
depth_parts (keep i e) = omega arith
depth_parts (then a b) = omega arith
depth_parts (out e) = omega arith
depth_parts next = refl
depth_parts (call c es) = omega arith

module _ (u : SourceUnit) (k : ℕ) where
  pub formed_parts : (e : Expr) → formed u k e ≡ (allowed u k (sign_of e) && formed_args u k (parts e))
  formed_parts (num n) = sym (and_true (ltb n _))
  formed_parts (arg i) = sym (and_true (ltb i k))
  formed_parts (word i) = sym (and_true (ltb i u.words))
  formed_parts (op o a b) = ap (λ x. formed u k a && x) (sym (and_true (formed u k b)))
  formed_parts (if c a b) = ap (λ x. formed u k c && (formed u k a && x)) (sym (and_true (formed u k b)))
  formed_parts (keep i e) = ap (λ x. ltb i u.words && x) (sym (and_true (formed u k e)))
  formed_parts (then a b) = ap (λ x. formed u k a && x) (sym (and_true (formed u k b)))
  formed_parts (out e) = sym (and_true (formed u k e))
  formed_parts next = refl
  formed_parts (call c es) = refl

  pub sign_right : (d : ℕ) (e : Expr) → Right u k d e → T (allowed u k (sign_of e))
  sign_right d e h = (T-parts (allowed u k (sign_of e)) (formed_args u k (parts e)) (rw (formed_parts e) at h.formed)).0

  pub parts_right : (d : ℕ) (e : Expr) → Right u k (suc d) e → RightParts u k d (part_count (sign_of e)) (parts e)
  parts_right d e h = record {
    count = count_parts e;
    deep = omega (arith, depth_parts e);
    formed = (T-parts (allowed u k (sign_of e)) (formed_args u k (parts e)) (rw (formed_parts e) at h.formed)).1;
  }

  pub node_right : (d : ℕ) (s : Sign) (es : Exprs) → T (allowed u k s) → RightParts u k d (part_count s) es → Right u k (suc d) (node s es)
  node_right d s es a h = go (node s es) (made s es h.count).sign (made s es h.count).parts
    where
      go : (e : Expr) → sign_of e ≡ s → parts e ≡ es → Right u k (suc d) e
      go e p q = record {
        deep = omega (arith, depth_parts e, ap depths q);
        formed = rw (formed_parts e, p, q) (T-both (allowed u k s) (formed_args u k es) a h.formed);
      }
