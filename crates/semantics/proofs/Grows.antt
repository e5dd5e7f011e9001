-- What is put out stays put out: it begins what any run from there puts out.
use Rattle.std.proofs.Common.{◌≡◌, ℕ, zero, suc, List, [], ◌∷◌, ◌++◌, sym, ap, ◌∙◌, subst, append_assoc, append-nil}
use Rattle.rows.specs.Units.{Expr, num, arg, word, op, if, keep, then, out, next, call, Exprs, nil, cons, SourceUnit}
use Rattle.semantics.specs.Runs.{State, Result, value, no_room, no_calls, bad, on, ons, eval, evals, Target, target, proc_at, run}
use Rattle.semantics.specs.Budgets.{Begins}
use Rattle.semantics.proofs.Continuations.{ons_cons, choose_both, spend_both, enter_both, through_both}

abbrev pub Extends : List ℕ → Result → Type 0
Extends b (value v s) = Begins b s.outs
Extends b (no_room s) = Begins b s.outs
Extends b (no_calls s) = Begins b s.outs
Extends b bad = Unit {0}

-- from a state that has put out b
abbrev pub Grows : List ℕ → (State → Result) → Type 0
Grows b f = (s : State) → Begins b s.outs → Extends b (f s)

pub begins_same : {ws ws' : List ℕ} → ws ≡ ws' → Begins ws ws'
begins_same {ws} e = ([], sym e ∙ sym (append-nil ws))

pub begins_push : (b ws : List ℕ) (v : ℕ) → Begins b ws → Begins b (ws ++ (v ∷ []))
begins_push b ws v h = (h.0 ++ (v ∷ []), ap (λ xs. xs ++ (v ∷ [])) h.1 ∙ append_assoc b h.0 (v ∷ []))

pub on_extends : (b : List ℕ) (r : Result) (k : ℕ → State → Result) → Extends b r → ((v : ℕ) → Grows b (k v)) → Extends b (on r k)
on_extends b (value v s) k h f = f v s h
on_extends b (no_room s) k h f = h
on_extends b (no_calls s) k h f = h
on_extends b bad k h f = tt

module _ (b : List ℕ) (u : ℕ) (vs : List ℕ) (x : ℕ → List ℕ → State → Result) (callee : (c : ℕ) (ws : List ℕ) → Grows b (x c ws)) where
  mutual
    pub eval_grows : (e : Expr) → Grows b (eval x u vs e)
    eval_grows (num n) s h = h
    eval_grows (arg i) s h = h
    eval_grows (word i) s h = h
    eval_grows (op o a c) s h = on_extends b (eval x u vs a s) _ (eval_grows a s h) (λ v t g. on_extends b (eval x u vs c t) _ (eval_grows c t g) (λ _ _ z. z))
    eval_grows (if c a e) s h = on_extends b (eval x u vs c s) _ (eval_grows c s h) (λ v t g. choose_both (Extends b) v _ _ (eval_grows a t g) (eval_grows e t g))
    eval_grows (keep i e) s h = on_extends b (eval x u vs e s) _ (eval_grows e s h) (λ _ _ z. z)
    eval_grows (then a c) s h = on_extends b (eval x u vs a s) _ (eval_grows a s h) (λ v. eval_grows c)
    eval_grows (out e) s h = on_extends b (eval x u vs e s) _ (eval_grows e s h) (λ v t. begins_push b t.outs v)
    eval_grows next s h = h
    eval_grows (call c es) s h = evals_grow es (x c) (callee c) s h

    pub evals_grow : (es : Exprs) (k : List ℕ → State → Result) → ((ws : List ℕ) → Grows b (k ws)) → Grows b (λ s. ons (evals x u vs es s) k)
    evals_grow nil k f s h = f [] s h
    evals_grow (cons e es) k f s h =
        subst (Extends b) (sym (ons_cons x u vs e es s k))
        (on_extends b (eval x u vs e s) _ (eval_grows e s h) (λ v. evals_grow es (λ ws. k (v ∷ ws)) (λ ws. f (v ∷ ws))))

pub run_grows : (b : List ℕ) (us : List SourceUnit) (d room : ℕ) (t : Target) (vs : List ℕ) → Grows b (run d us room t vs)
run_grows b us zero room t vs s h = h
run_grows b us (suc d) room t vs s h =
    spend_both (Extends b) s.left s _ (λ _. h)
    (λ m _. enter_both (Extends b) (proc_at us t) room _ _ (λ _. tt) (λ _ _ _. h)
    (λ p _ _. eval_grows b t.unit vs _ (λ c ws r g. through_both (Extends b) (target us t.unit c) _ (λ _. tt) (λ n _. run_grows b us d _ n ws r g)) p.body _ h))
