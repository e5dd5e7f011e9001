-- Two runs side by side, of programs whose units correspond: they keep step.
use Rattle.std.proofs.Common.{◌≡◌, ℕ, zero, suc, ◌-◌, ◌<◌, ◌≤◌, List, [], ◌∷◌, ◌++◌, get_or, drop, sym, refl, ap, ap₂, subst₂, not-suc-le-zero, arith}
use Rattle.std.specs.List.{slice_get}
use Rattle.rows.specs.Options.{◌>>=◌}
use Rattle.rows.specs.Units.{Expr, num, arg, word, op, if, keep, then, out, next, call, Exprs, nil, cons, SourceUnit}
use Rattle.rows.specs.Frames.{frame}
use Rattle.semantics.specs.Runs.{State, Result, with_left, keep_at, ons, eval, evals, Target, target, proc_at, through, run, zeros, source}
use Rattle.semantics.specs.Whole.{behaviour}
use Rattle.semantics.proofs.Continuations.{ons_cons, choose_both, through_both}
use Rattle.semantics.proofs.Grows.{Grows, Extends, begins_same, begins_push, on_extends, eval_grows, evals_grow, run_grows}
use Rattle.semantics.proofs.Matched.{Alike, Matched, gives, on_matched, choose_matched, matched_less, spend_matched, enter_matched, BothFind, through_matched}
use Rattle.semantics.proofs.Seen.{Seen, seen}

-- expressions in the units at i and at j, whose words W relates; x and x' are what their callees do
module _ (R C : Type 0) (W : List (List ℕ) → List (List ℕ) → Type 0) (L : ℕ → ℕ → Type 0) (i j : ℕ)
    (reads : (ws ws' : List (List ℕ)) → W ws ws' → get_or ws i [] ≡ get_or ws' j [])
    (keeps : (ws ws' : List (List ℕ)) → W ws ws' → (n v : ℕ) → W (keep_at ws i n v) (keep_at ws' j n v))
    (vs : List ℕ) (x x' : ℕ → List ℕ → State → Result)
    (callee : (c : ℕ) (ws : List ℕ) (s s' : State) → Alike W L s s' → Matched R C (Alike W L) (x c ws s) (x' c ws s'))
    (grows : (b : List ℕ) (c : ℕ) (ws : List ℕ) → Grows b (x' c ws)) where
  mutual
    pub eval_matched : (e : Expr) (s s' : State) → Alike W L s s' → Matched R C (Alike W L) (eval x i vs e s) (eval x' j vs e s')
    eval_matched (num n) s s' a = gives refl a
    eval_matched (arg n) s s' a = gives refl a
    eval_matched (word n) s s' a = gives (ap (λ ws. get_or ws n 0) (reads s.words s'.words a.words)) a
    eval_matched (op o e f) s s' a =
        on_matched R C (Alike W L) _ _ (eval_matched e s s' a)
        (λ v t t' a'. on_matched R C (Alike W L) _ _ (eval_matched f t t' a') (λ _ _ _. gives refl) (λ _ _ _ z. z))
        (λ b v t h. on_extends b (eval x' j vs f t) _ (eval_grows b j vs x' (grows b) f t h) (λ _ _ z. z))
    eval_matched (if c e f) s s' a =
        on_matched R C (Alike W L) _ _ (eval_matched c s s' a)
        (λ v t t' a'. choose_matched R C (Alike W L) v (eval_matched e t t' a') (eval_matched f t t' a'))
        (λ b v t h. choose_both (Extends b) v _ _ (eval_grows b j vs x' (grows b) e t h) (eval_grows b j vs x' (grows b) f t h))
    eval_matched (keep n e) s s' a =
        on_matched R C (Alike W L) _ _ (eval_matched e s s' a)
        (λ v t t' a'. gives refl (record { words = keeps t.words t'.words a'.words n v; tape = a'.tape; outs = a'.outs; left = a'.left }))
        (λ _ _ _ z. z)
    eval_matched (then e f) s s' a =
        on_matched R C (Alike W L) _ _ (eval_matched e s s' a)
        (λ v. eval_matched f) (λ b v. eval_grows b j vs x' (grows b) f)
    eval_matched (out e) s s' a =
        on_matched R C (Alike W L) _ _ (eval_matched e s s' a)
        (λ v t t' a'. gives refl (record { words = a'.words; tape = a'.tape; outs = ap (λ ws. ws ++ (v ∷ [])) a'.outs; left = a'.left }))
        (λ b v t. begins_push b t.outs v)
    eval_matched next s s' a = gives (ap (λ ws. get_or ws 0 0) a.tape) (record { words = a.words; tape = ap (drop 1) a.tape; outs = a.outs; left = a.left })
    eval_matched (call c es) s s' a = evals_matched es (x c) (x' c) (callee c) (λ b. grows b c) s s' a

    evals_matched : (es : Exprs) (k k' : List ℕ → State → Result) →
        ((ws : List ℕ) (s s' : State) → Alike W L s s' → Matched R C (Alike W L) (k ws s) (k' ws s')) → ((b ws : List ℕ) → Grows b (k' ws)) →
        (s s' : State) → Alike W L s s' → Matched R C (Alike W L) (ons (evals x i vs es s) k) (ons (evals x' j vs es s') k')
    evals_matched nil k k' f g s s' a = f [] s s' a
    evals_matched (cons e es) k k' f g s s' a =
        subst₂ (Matched R C (Alike W L)) (sym (ons_cons x i vs e es s k)) (sym (ons_cons x' j vs e es s' k'))
        (on_matched R C (Alike W L) _ _ (eval_matched e s s' a)
        (λ v. evals_matched es (λ ws. k (v ∷ ws)) (λ ws. k' (v ∷ ws)) (λ ws. f (v ∷ ws)) (λ b ws. g b (v ∷ ws)))
        (λ b v. evals_grow b j vs x' (grows b) es (λ ws. k' (v ∷ ws)) (λ ws. g b (v ∷ ws))))

-- P relates the places of units of us with those of the same units of us', and W the units' words
pub record Correspond (us us' : List SourceUnit) (P : ℕ → ℕ → Type 0) (W : List (List ℕ) → List (List ℕ) → Type 0) : Type 0 where
  pub unit : (i j : ℕ) → P i j → slice_get us i ≡ slice_get us' j
  pub callee : (i j : ℕ) → P i j → (c : ℕ) → BothFind P (target us i c) (target us' j c)
  pub reads : (i j : ℕ) → P i j → (ws ws' : List (List ℕ)) → W ws ws' → get_or ws i [] ≡ get_or ws' j []
  pub keeps : (i j : ℕ) → P i j → (ws ws' : List (List ℕ)) → W ws ws' → (n v : ℕ) → W (keep_at ws i n v) (keep_at ws' j n v)

-- the calls left in two runs, both below their depth; the second has no more if C
pub record Calls (C : Type 0) (d d' left left' : ℕ) : Type 0 where
  pub more : left ≤ left'
  pub same : C → left ≡ left'
  pub deep : left < d
  pub deep' : left' < d'

one_deeper : (C : Type 0) (W : List (List ℕ) → List (List ℕ) → Type 0) (d d' : ℕ) (s s' : State) → Alike W (Calls C d d') s s' → Alike W (Calls C (suc d) (suc d')) s s'
one_deeper C W d d' s s' a =
    record { words = a.words; tape = a.tape; outs = a.outs; left = record { more = a.left.more; same = a.left.same; deep = omega arith; deep' = omega arith } }

one_call_less : (C : Type 0) (W : List (List ℕ) → List (List ℕ) → Type 0) (d d' : ℕ) (s s' : State) (m m' : ℕ) → s.left ≡ suc m → s'.left ≡ suc m' →
    Alike W (Calls C (suc d) (suc d')) s s' → Alike W (Calls C d d') (with_left s m) (with_left s' m')
one_call_less C W d d' s s' m m' is is' a =
    record { words = a.words; tape = a.tape; outs = a.outs; left = left }
  where
    left : Calls C d d' m m'
    left = record { more = omega arith; same = λ c. let h = a.left.same c in omega arith; deep = omega arith; deep' = omega arith }

-- the work on a body of unit i, whose callees are called d deep with this room
abbrev body : List SourceUnit → ℕ → ℕ → ℕ → List ℕ → Expr → State → Result
body us d room i vs e s = eval (λ c ws q. through (target us i c) (λ n. run d us room n ws q)) i vs e s

module _ (us us' : List SourceUnit) (P : ℕ → ℕ → Type 0) (W : List (List ℕ) → List (List ℕ) → Type 0) (units : Correspond us us' P W) (R C : Type 0) where
  -- calls of two targets with rooms of which the second is at least as large, and no larger if R
  abbrev RunsMatch : ℕ → ℕ → ℕ → ℕ → Type 0
  RunsMatch d d' room room' = (t t' : Target) → t.proc ≡ t'.proc → P t.unit t'.unit → (vs : List ℕ) (s s' : State) → Alike W (Calls C d d') s s' →
      Matched R C (Alike W (Calls C d d')) (run d us room t vs s) (run d' us' room' t' vs s')

  body_matched : (d d' room room' : ℕ) → RunsMatch d d' room room' → (i j : ℕ) → P i j → (e : Expr) (vs : List ℕ) (s s' : State) → Alike W (Calls C d d') s s' →
      Matched R C (Alike W (Calls C (suc d) (suc d'))) (body us d room i vs e s) (body us' d' room' j vs e s')
  body_matched d d' room room' below i j u e vs s s' a =
      matched_less R C (Alike W (Calls C d d')) (Alike W (Calls C (suc d) (suc d'))) (one_deeper C W d d')
      (eval_matched R C W (Calls C d d') i j (units.reads i j u) (units.keeps i j u) vs _ _
      (λ c ws r r' b. through_matched R C _ P _ _ (units.callee i j u c) (λ t t' p v. below t t' p v ws r r' b))
      (λ b c ws r h. through_both (Extends b) (target us' j c) _ (λ _. tt) (λ n _. run_grows b us' d' room' n ws r h))
      e s s' a)

  procs_same : (t t' : Target) → t.proc ≡ t'.proc → P t.unit t'.unit → proc_at us t ≡ proc_at us' t'
  procs_same t t' p u = ap₂ (λ o n. o >>= (λ v. slice_get v.procs n)) (units.unit t.unit t'.unit u) p

  pub run_matched : (d d' room room' : ℕ) → room ≤ room' → (R → room ≡ room') → RunsMatch d d' room room'
  run_matched zero d' room room' le eq t t' p u vs s s' a = absurd (not-suc-le-zero a.left.deep)
  run_matched (suc d) zero room room' le eq t t' p u vs s s' a = absurd (not-suc-le-zero a.left.deep')
  run_matched (suc d) (suc d') room room' le eq t t' p u vs s s' a =
      spend_matched R C _ s.left s'.left s s' _ _ a.left.more a.left.same a.outs (run_grows s.outs us' (suc d') room' t' vs s' (begins_same a.outs))
      (λ m m' is is'. enter_matched R C _ (proc_at us t) (proc_at us' t') (procs_same t t' p u) room room' _ _ _ _ le eq a.outs
      (run_grows s.outs us' (suc d') room' t' vs (with_left s' (suc m')) (begins_same a.outs))
      (λ q fits. body_matched d d' (room - frame q) (room' - frame q)
      (run_matched d d' (room - frame q) (room' - frame q) (omega arith) (λ r. ap (λ n. n - frame q) (eq r)))
      t.unit t'.unit u q.body vs _ _ (one_call_less C W d d' s s' m m' is is' a)))

  -- the programs on one tape
  pub programs_seen : W (zeros us) (zeros us') → P 0 0 →
      (tape : List ℕ) (room room' calls calls' : ℕ) → room ≤ room' → (R → room ≡ room') → calls ≤ calls' → (C → calls ≡ calls') →
      Seen R C (behaviour (source us room tape calls)) (behaviour (source us' room' tape calls'))
  programs_seen words first tape room room' calls calls' le eq le' eq' =
      seen R C (Alike W (Calls C (suc calls) (suc calls'))) (λ s s' a. a.outs) (source us room tape calls) (source us' room' tape calls')
      (run_matched (suc calls) (suc calls') room room' le eq (record { unit = 0; proc = 0 }) (record { unit = 0; proc = 0 }) refl first [] _ _
      (record { words = words; tape = refl; outs = refl; left = record { more = le'; same = eq'; deep = omega arith; deep' = omega arith } }))
