-- A unit keeps values in its own words alone: what holds of another unit's words goes on to hold, as long as calls of the unit's wants keep it.
use Rattle.std.proofs.Common.{ℕ, zero, suc, ◌-◌, ◌<◌, cond, ltb, ◌≢◌, List, [], ◌∷◌, length, get_or, sym, subst, arith, get_or-set_other}
use Rattle.std.specs.List.{slice_get}
use Rattle.std.proofs.lemmas.Bool.{ltb-true, cond_both}
use Rattle.rows.specs.Units.{Expr, num, arg, word, op, if, keep, then, out, next, call, Exprs, nil, cons, SourceUnit}
use Rattle.semantics.specs.Runs.{State, Result, value, no_room, no_calls, bad, on, ons, eval, evals}
use Rattle.semantics.specs.Relation.{Imports, run_unit}
use Rattle.semantics.proofs.Continuations.{ons_cons, choose_both, spend_both, enter_both}

module _ (j : ℕ) (P : List ℕ → Type 0) where
  -- P holds of unit j's words
  abbrev pub Has : State → Type 0
  Has s = P (get_or s.words j [])

  -- where a value comes out, P holds
  abbrev pub Keeps : Result → Type 0
  Keeps (value v s) = Has s
  Keeps (no_room s) = Unit {0}
  Keeps (no_calls s) = Unit {0}
  Keeps bad = Unit {0}

  on_keeps : (r : Result) (k : ℕ → State → Result) → Keeps r → ((v : ℕ) (s : State) → Has s → Keeps (k v s)) → Keeps (on r k)
  on_keeps (value v s) k h f = f v s h
  on_keeps (no_room s) k h f = tt
  on_keeps (no_calls s) k h f = tt
  on_keeps bad k h f = tt

  -- an expression of unit number i, which is another
  module _ (i : ℕ) (other : j ≢ i) (vs : List ℕ) (x : ℕ → List ℕ → State → Result) (callee : (c : ℕ) (ws : List ℕ) (s : State) → Has s → Keeps (x c ws s)) where
    mutual
      eval_keeps : (e : Expr) (s : State) → Has s → Keeps (eval x i vs e s)
      eval_keeps (num n) s h = h
      eval_keeps (arg k) s h = h
      eval_keeps (word k) s h = h
      eval_keeps (op o a c) s h = on_keeps (eval x i vs a s) _ (eval_keeps a s h) (λ v t k. on_keeps (eval x i vs c t) _ (eval_keeps c t k) (λ _ _ z. z))
      eval_keeps (if t a c) s h = on_keeps (eval x i vs t s) _ (eval_keeps t s h) (λ v r k. choose_both Keeps v _ _ (eval_keeps a r k) (eval_keeps c r k))
      eval_keeps (keep n e) s h = on_keeps (eval x i vs e s) _ (eval_keeps e s h) (λ v t k. subst P (sym (get_or-set_other t.words i j _ [] other)) k)
      eval_keeps (then a c) s h = on_keeps (eval x i vs a s) _ (eval_keeps a s h) (λ v. eval_keeps c)
      eval_keeps (out e) s h = on_keeps (eval x i vs e s) _ (eval_keeps e s h) (λ _ _ z. z)
      eval_keeps next s h = h
      eval_keeps (call c es) s h = evals_keep es (x c) (callee c) s h

      evals_keep : (es : Exprs) (k : List ℕ → State → Result) → ((ws : List ℕ) (s : State) → Has s → Keeps (k ws s)) → (s : State) → Has s → Keeps (ons (evals x i vs es s) k)
      evals_keep nil k f s h = f [] s h
      evals_keep (cons e es) k f s h =
          subst Keeps (sym (ons_cons x i vs e es s k))
          (on_keeps (eval x i vs e s) _ (eval_keeps e s h) (λ v. evals_keep es (λ ws. k (v ∷ ws)) (λ ws. f (v ∷ ws))))

  -- a callee: the want c, if c is below their number n, or the unit's own procedure
  callee_keeps : (c n : ℕ) (r r' : Result) → (c < n → Keeps r) → Keeps r' → Keeps (cond (ltb c n) r r')
  callee_keeps c n r r' h h' = cond_both (ltb c n) r r' Keeps (λ t. h (ltb-true c n t)) (λ t. h')

  -- a procedure of unit number i
  pub unit_keeps : (u : SourceUnit) (i : ℕ) → j ≢ i → (x : Imports) (d : ℕ) → ((e c room : ℕ) (vs : List ℕ) (s : State) → e < d → c < length u.wants → Has s → Keeps (x e c room vs s)) →
      (p room : ℕ) (vs : List ℕ) (s : State) → Has s → Keeps (run_unit d u i x p room vs s)
  unit_keeps u i other x zero wants p room vs s h = tt
  unit_keeps u i other x (suc d) wants p room vs s h =
      spend_both Keeps s.left s _ (λ _. tt)
      (λ m _. enter_both Keeps (slice_get u.procs p) room _ _ (λ _. tt) (λ _ _ _. tt)
      (λ q _ _. eval_keeps i other vs _
      (λ c ws t k. callee_keeps c (length u.wants) _ _ (λ lt. wants d c _ ws t (omega arith) lt k)
      (unit_keeps u i other x d (λ e n free vs' r less lt k'. wants e n free vs' r (omega arith) lt k') (c - length u.wants) _ ws t k))
      q.body _ h))
