-- What a body may name depends on a unit's outline alone: its words, its wants and how many arguments its procedures take.
use Rattle.std.proofs.Common.{◌≡◌, ℕ, zero, suc, ◌-◌, cond, ◌&&◌, T, ltb, List, [], ◌∷◌, map, length, sym, refl, ap, ◌∙◌, subst, ap₂}
use Rattle.std.specs.Option.{option_map}
use Rattle.std.specs.List.{slice_get}
use Rattle.rows.specs.Units.{Expr, Exprs, nil, cons, Proc, SourceUnit, arity}
use Rattle.rows.specs.Formed.{takes, formed, formed_args}
use Rattle.rows.specs.Signs.{sign_of, parts}
use Rattle.rows.specs.ObjectViews.{wants_in}
use Rattle.rows.specs.Bodies.{bodiless, outlined, allowed, Right}
use Rattle.rows.specs.declared.signs.Sign.{Sign}
use Rattle.rows.specs.declared.signs.Sign.TheVariants.{Number, Argument, Word, Operation, If, Keep, Then, Out, Next, Call}
use Rattle.rows.proofs.ExprParts.{Each, by_parts}
use Rattle.rows.proofs.RightParts.{formed_parts}

-- two units with as many words, in which each callee takes as many arguments
module _ (u w : SourceUnit) (words : u.words ≡ w.words) (same : (c : ℕ) → arity u c ≡ arity w c) (k : ℕ) where
  allowed_alike : (s : Sign) → allowed u k s ≡ allowed w k s
  allowed_alike (Number n) = refl
  allowed_alike (Argument i) = refl
  allowed_alike (Word i) = ap (ltb i) words
  allowed_alike (Operation o) = refl
  allowed_alike If = refl
  allowed_alike (Keep i) = ap (ltb i) words
  allowed_alike Then = refl
  allowed_alike Out = refl
  allowed_alike Next = refl
  allowed_alike (Call c n) = ap (λ a. takes a n) (same c.0)

  parts_alike : (es : Exprs) → Each (λ e. formed u k e ≡ formed w k e) es → formed_args u k es ≡ formed_args w k es
  parts_alike nil h = refl
  parts_alike (cons e es) h = ap₂ (λ a b. a && b) h.0 (parts_alike es h.1)

  pub formed_alike : (e : Expr) → formed u k e ≡ formed w k e
  formed_alike = by_parts (λ e. formed u k e ≡ formed w k e) (λ e h. formed_parts u k e ∙ (ap₂ (λ a b. a && b) (allowed_alike (sign_of e)) (parts_alike (parts e) h) ∙ sym (formed_parts w k e)))

-- a procedure without its body takes as many arguments
own_alike : (ps : List Proc) (i : ℕ) → option_map (λ p. p.args) (slice_get ps i) ≡ option_map (λ p. p.args) (slice_get (map bodiless (map (λ p. p.args) ps)) i)
own_alike [] i = refl
own_alike (p ∷ ps) zero = refl
own_alike (p ∷ ps) (suc i) = own_alike ps i

module _ (u : SourceUnit) (wants : List (List ℕ)) (arities : List ℕ) (is_wants : wants_in wants ≡ u.wants) (is_arities : map (λ p. p.args) u.procs ≡ arities) where
  arity_alike : (c : ℕ) → arity u c ≡ arity (outlined u.words wants arities) c
  arity_alike c = rw (is_wants, ← is_arities) (ap (λ a. cond (ltb c (length u.wants)) (option_map (λ w. w.args) (slice_get u.wants c)) a) (own_alike u.procs (c - length u.wants)))

  -- a body is right in the unit exactly if it is right in the outline
  pub outline_right : (k d : ℕ) (e : Expr) → Right u k d e → Right (outlined u.words wants arities) k d e
  outline_right k d e h = record { deep = h.deep; formed = subst T (formed_alike u (outlined u.words wants arities) refl arity_alike k e) h.formed }

  pub right_outline : (k d : ℕ) (e : Expr) → Right (outlined u.words wants arities) k d e → Right u k d e
  right_outline k d e h = record { deep = h.deep; formed = subst T (sym (formed_alike u (outlined u.words wants arities) refl arity_alike k e)) h.formed }
