-- Programs of units that fit together never come to the bad state.
use Rattle.std.proofs.Common.{◌≡◌, ℕ, zero, suc, ◌-◌, ◌&&◌, T, ltb, List, [], ◌∷◌, Some, Option, sym, refl, ◌∙◌, subst}
use Rattle.std.specs.Option.{option_map}
use Rattle.std.specs.List.{slice_get}
use Rattle.std.proofs.iter.runs.Lists.{none-some}
use Rattle.rows.specs.Units.{Expr, num, arg, word, op, if, keep, then, out, next, call, Exprs, nil, cons, count, Proc, SourceUnit, arity}
use Rattle.rows.specs.Formed.{takes, formed, formed_args}
use Rattle.rows.specs.Frames.{frame}
use Rattle.semantics.specs.Runs.{State, Result, value, no_room, no_calls, bad, on, ons, eval, evals, Target, target, proc_at, through, run, source}
use Rattle.semantics.specs.Whole.{among, starts, all_met, all_formed, Behaviour, done, without_calls, without_room, behaviour}
use Rattle.semantics.specs.Ends.{Ends}
use Rattle.semantics.proofs.Continuations.{ons_cons, choose_both, spend_both, enter_both}
use Rattle.semantics.proofs.Lookups.{and_both, both_found, body_formed, Callable, own_callable, callee_callable}

abbrev pub NotBad : Result → Type 0
NotBad (value v s) = Unit {0}
NotBad (no_room s) = Unit {0}
NotBad (no_calls s) = Unit {0}
NotBad bad = ⊥

on_not_bad : (r : Result) (k : ℕ → State → Result) → NotBad r → ((v : ℕ) (s : State) → NotBad (k v s)) → NotBad (on r k)
on_not_bad (value v s) k h f = f v s
on_not_bad (no_room s) k h f = tt
on_not_bad (no_calls s) k h f = tt
on_not_bad bad k h f = h

-- in the body of a procedure of n arguments of the unit w, if the callees of w that take so many arguments are not bad
module _ (w : SourceUnit) (n u : ℕ) (vs : List ℕ) (x : ℕ → List ℕ → State → Result)
    (callee : (c m : ℕ) → T (takes (arity w c) m) → (ws : List ℕ) (s : State) → NotBad (x c ws s)) where
  mutual
    pub eval_not_bad : (e : Expr) (s : State) → T (formed w n e) → NotBad (eval x u vs e s)
    eval_not_bad (num i) s t = tt
    eval_not_bad (arg i) s t = tt
    eval_not_bad (word i) s t = tt
    eval_not_bad (op o a b) s t =
        on_not_bad (eval x u vs a s) _ (eval_not_bad a s (and_both (formed w n a) (formed w n b) t).0)
        (λ v r. on_not_bad (eval x u vs b r) _ (eval_not_bad b r (and_both (formed w n a) (formed w n b) t).1) (λ _ _. tt))
    eval_not_bad (if c a b) s t =
        let c_ab = and_both (formed w n c) (formed w n a && formed w n b) t in
        let a_b = and_both (formed w n a) (formed w n b) c_ab.1 in
        on_not_bad (eval x u vs c s) _ (eval_not_bad c s c_ab.0)
        (λ v r. choose_both NotBad v (eval x u vs a r) (eval x u vs b r) (eval_not_bad a r a_b.0) (eval_not_bad b r a_b.1))
    eval_not_bad (keep i e) s t = on_not_bad (eval x u vs e s) _ (eval_not_bad e s (and_both (ltb i w.words) (formed w n e) t).1) (λ _ _. tt)
    eval_not_bad (then a b) s t =
        on_not_bad (eval x u vs a s) _ (eval_not_bad a s (and_both (formed w n a) (formed w n b) t).0)
        (λ v r. eval_not_bad b r (and_both (formed w n a) (formed w n b) t).1)
    eval_not_bad (out e) s t = on_not_bad (eval x u vs e s) _ (eval_not_bad e s t) (λ _ _. tt)
    eval_not_bad next s t = tt
    eval_not_bad (call c es) s t =
        let right = and_both (takes (arity w c) (count es)) (formed_args w n es) t in
        evals_not_bad es s right.1 (x c) (callee c (count es) right.0)

    evals_not_bad : (es : Exprs) (s : State) → T (formed_args w n es) → (k : List ℕ → State → Result) → ((ws : List ℕ) (r : State) → NotBad (k ws r)) →
        NotBad (ons (evals x u vs es s) k)
    evals_not_bad nil s t k h = h [] s
    evals_not_bad (cons e es) s t k h =
        let e_es = and_both (formed w n e) (formed_args w n es) t in
        subst NotBad (sym (ons_cons x u vs e es s k))
        (on_not_bad (eval x u vs e s) _ (eval_not_bad e s e_es.0) (λ v r. evals_not_bad es r e_es.1 (λ ws. k (v ∷ ws)) (λ ws. h (v ∷ ws))))

-- calls of what a look-up finds, if calls of procedures that are there are not bad
found_not_bad : (us : List SourceUnit) (f : Target → List ℕ → State → Result) →
    ((t : Target) (p : Proc) → proc_at us t ≡ Some p → (vs : List ℕ) (s : State) → NotBad (f t vs s)) →
    (o : Option Target) (n : ℕ) → Callable us o n → (vs : List ℕ) (s : State) → NotBad (through o (λ t. f t vs s))
found_not_bad us f h o n c vs s = subst (λ q. NotBad (through q (λ t. f t vs s))) (sym c.is) (h c.target c.proc c.there vs s)

-- a call of a procedure that is there, at any depth, with any room, values and state
pub run_not_bad : (us : List SourceUnit) → T (all_met us us) → T (all_formed us) →
    (d room : ℕ) (t : Target) (p : Proc) → proc_at us t ≡ Some p → (vs : List ℕ) (s : State) → NotBad (run d us room t vs s)
run_not_bad us met bodies zero room t p e vs s = tt
run_not_bad us met bodies (suc d) room t p e vs s =
    spend_both NotBad s.left s _ (λ _. tt)
    (λ m _. enter_both NotBad (proc_at us t) room _ _ (λ none. none-some p (sym none ∙ e)) (λ _ _ _. tt)
    (λ q is _. let u = both_found (slice_get us t.unit) (λ v. slice_get v.procs t.proc) q is in
    eval_not_bad u.0 q.args t.unit vs _
    (λ c n h. found_not_bad us (run d us (room - frame q)) (run_not_bad us met bodies d (room - frame q))
    (target us t.unit c) n (callee_callable us t.unit c n u.0 met u.1 h))
    q.body _ (body_formed us t.unit t.proc u.0 q bodies u.1 u.2)))

has_behaviour : (r : Result) → NotBad r → (b : Behaviour) × (behaviour r ≡ Some b)
has_behaviour (value v s) h = (done s.outs, refl)
has_behaviour (no_room s) h = (without_room s.outs, refl)
has_behaviour (no_calls s) h = (without_calls s.outs, refl)
has_behaviour bad h = absurd h

-- procedure 0 of the first unit
start_callable : (us : List SourceUnit) → T (starts us) → Callable us (Some (record { unit = 0; proc = 0 })) 0
start_callable [] h = absurd h
start_callable (u ∷ us) h = own_callable (u ∷ us) 0 0 0 u refl (and_both (among 0 u.offers) (takes (option_map (λ q. q.args) (slice_get u.procs 0)) 0) h).1

pub ends : Ends
ends us room calls tape fit =
    has_behaviour (source us room tape calls)
    (found_not_bad us (run (suc calls) us room) (run_not_bad us fit.met fit.formed (suc calls) room)
    (Some (record { unit = 0; proc = 0 })) 0 (start_callable us fit.starts) [] _)
