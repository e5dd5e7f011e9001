-- How deep calls may stand in one another bounds nothing above the calls left: each call takes one of them.
use Rattle.std.proofs.Common.{◌≡◌, ℕ, zero, suc, ◌-◌, ◌<◌, ◌≤◌, Bool, true, false, cond, ltb, List, [], ◌∷◌, Some, None, Option, sym, refl, subst, subst₂, le_trans, le_refl, arith}
use Rattle.rows.specs.Units.{Expr, num, arg, word, op, if, keep, then, out, next, call, Exprs, nil, cons, Proc, SourceUnit}
use Rattle.rows.specs.Frames.{frame}
use Rattle.semantics.specs.Runs.{State, with_left, Result, value, no_room, no_calls, bad, on, ons, choose, eval, evals, Target, target, proc_at, spend, enter, through, run}
use Rattle.semantics.specs.Ends.{DepthBoundsNothing}
use Rattle.semantics.proofs.Continuations.{ons_cons}

-- a value comes with at most n calls left
abbrev Within : ℕ → Result → Type 0
Within n (value v s) = s.left ≤ n
Within n (no_room s) = Unit {0}
Within n (no_calls s) = Unit {0}
Within n bad = Unit {0}

-- both results are one, with at most n calls left
pub record Same (n : ℕ) (r r' : Result) : Type 0 where
  pub within : Within n r
  pub same : r ≡ r'

more_left : (n n' : ℕ) → n ≤ n' → (r : Result) → Within n r → Within n' r
more_left n n' le (value v s) h = le_trans h le
more_left n n' le (no_room s) h = tt
more_left n n' le (no_calls s) h = tt
more_left n n' le bad h = tt

module _ (n : ℕ) where
  itself : (r : Result) → Within n r → Same n r r
  itself r h = record { within = h; same = refl }

  on_same : (r r' : Result) (k k' : ℕ → State → Result) → Same n r r' → ((v : ℕ) (s : State) → s.left ≤ n → Same n (k v s) (k' v s)) → Same n (on r k) (on r' k')
  on_same r r' k k' h f = subst (λ q. Same n (on r k) (on q k')) h.same (by r h.within)
    where
      by : (q : Result) → Within n q → Same n (on q k) (on q k')
      by (value v s) le = f v s le
      by (no_room s) le = itself (no_room s) tt
      by (no_calls s) le = itself (no_calls s) tt
      by bad le = itself bad tt

  choose_same : (v : ℕ) (a b a' b' : Result) → Same n a a' → Same n b b' → Same n (choose v a b) (choose v a' b')
  choose_same zero a b a' b' h k = k
  choose_same (suc v) a b a' b' h k = h

  spend_same : (l : ℕ) (s : State) (k k' : State → Result) → ((m : ℕ) → l ≡ suc m → Same n (k (with_left s m)) (k' (with_left s m))) → Same n (spend l s k) (spend l s k')
  spend_same zero s k k' f = itself (no_calls s) tt
  spend_same (suc m) s k k' f = f m refl

  cond_same : (b : Bool) (s : State) (r r' : Result) → Same n r r' → Same n (cond b (no_room s) r) (cond b (no_room s) r')
  cond_same true s r r' h = itself (no_room s) tt
  cond_same false s r r' h = h

  enter_same : (o : Option Proc) (room : ℕ) (k k' : Proc → ℕ → Result) (s : State) → ((p : Proc) (free : ℕ) → Same n (k p free) (k' p free)) → Same n (enter o room k s) (enter o room k' s)
  enter_same None room k k' s f = itself bad tt
  enter_same (Some p) room k k' s f = cond_same (ltb room (frame p)) s _ _ (f p (room - frame p))

  through_same : (o : Option Target) (k k' : Target → Result) → ((t : Target) → Same n (k t) (k' t)) → Same n (through o k) (through o k')
  through_same None k k' f = itself bad tt
  through_same (Some t) k k' f = f t

  -- an expression, where callees do the same with at most n calls left
  module _ (u : ℕ) (vs : List ℕ) (x x' : ℕ → List ℕ → State → Result) (callee : (c : ℕ) (ws : List ℕ) (s : State) → s.left ≤ n → Same n (x c ws s) (x' c ws s)) where
    mutual
      eval_same : (e : Expr) (s : State) → s.left ≤ n → Same n (eval x u vs e s) (eval x' u vs e s)
      eval_same (num i) s h = itself _ h
      eval_same (arg i) s h = itself _ h
      eval_same (word i) s h = itself _ h
      eval_same (op o a b) s h = on_same _ _ _ _ (eval_same a s h) (λ v t k. on_same _ _ _ _ (eval_same b t k) (λ _ _ z. itself _ z))
      eval_same (if c a b) s h = on_same _ _ _ _ (eval_same c s h) (λ v t k. choose_same v _ _ _ _ (eval_same a t k) (eval_same b t k))
      eval_same (keep i e) s h = on_same _ _ _ _ (eval_same e s h) (λ _ _ z. itself _ z)
      eval_same (then a b) s h = on_same _ _ _ _ (eval_same a s h) (λ v. eval_same b)
      eval_same (out e) s h = on_same _ _ _ _ (eval_same e s h) (λ _ _ z. itself _ z)
      eval_same next s h = itself _ h
      eval_same (call c es) s h = evals_same es (x c) (x' c) (callee c) s h

      evals_same : (es : Exprs) (k k' : List ℕ → State → Result) → ((ws : List ℕ) (s : State) → s.left ≤ n → Same n (k ws s) (k' ws s)) → (s : State) → s.left ≤ n →
          Same n (ons (evals x u vs es s) k) (ons (evals x' u vs es s) k')
      evals_same nil k k' f s h = f [] s h
      evals_same (cons e es) k k' f s h =
          subst₂ (Same n) (sym (ons_cons x u vs e es s k)) (sym (ons_cons x' u vs e es s k'))
          (on_same _ _ _ _ (eval_same e s h) (λ v. evals_same es (λ ws. k (v ∷ ws)) (λ ws. k' (v ∷ ws)) (λ ws. f (v ∷ ws))))

run_same : (us : List SourceUnit) (d d' n : ℕ) → n < d → n < d' → (room : ℕ) (t : Target) (vs : List ℕ) (s : State) → s.left ≤ n → Same n (run d us room t vs s) (run d' us room t vs s)
run_same us zero d' n lt lt' room t vs s h = absurd (omega arith)
run_same us (suc d) zero n lt lt' room t vs s h = absurd (omega arith)
run_same us (suc d) (suc d') n lt lt' room t vs s h =
    spend_same n s.left s _ _ (λ m is. enter_same n (proc_at us t) room _ _ (with_left s m) (λ p free. wider m (omega arith) _ _
    (eval_same m t.unit vs _ _ (λ c ws q k. through_same m (target us t.unit c) _ _ (λ g. run_same us d d' m (omega arith) (omega arith) free g ws q k)) p.body (with_left s m) (le_refl m))))
  where
    wider : (m : ℕ) → m ≤ n → (r r' : Result) → Same m r r' → Same n r r'
    wider m le r r' k = record { within = more_left m n le r k.within; same = k.same }

pub depth_bounds_nothing : DepthBoundsNothing
depth_bounds_nothing us room t vs s d d' deep deep' = (run_same us d d' s.left deep deep' room t vs s (le_refl s.left)).same
