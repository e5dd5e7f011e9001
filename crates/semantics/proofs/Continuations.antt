-- Going on after a result: what holds on every way holds of the whole.
use Rattle.std.proofs.Common.{◌≡◌, ℕ, zero, suc, ◌-◌, ◌<◌, ◌≤◌, ltb, List, ◌∷◌, Some, None, Option, refl, ap, ◌∙◌}
use mathlib.Core.Path.{fun_ext}
use Rattle.std.proofs.lemmas.Bool.{cond_both, ltb-true, ltb-false}
use Rattle.rows.specs.Units.{Expr, Exprs, cons, Proc}
use Rattle.rows.specs.Frames.{frame}
use Rattle.semantics.specs.Runs.{State, with_left, Result, value, no_room, no_calls, bad, Results, values, stop, on, ons, first, more, choose, eval, evals, Target, spend, enter, through}

ons_first : (r : Result) (f : ℕ → State → Results) (k : List ℕ → State → Result) → ons (first r f) k ≡ on r (λ v t. ons (f v t) k)
ons_first (value v s) f k = refl
ons_first (no_room s) f k = refl
ons_first (no_calls s) f k = refl
ons_first bad f k = refl

ons_more : (rs : Results) (f : List ℕ → State → Results) (k : List ℕ → State → Result) → ons (more rs f) k ≡ ons rs (λ ws t. ons (f ws t) k)
ons_more (values ws s) f k = refl
ons_more (stop r) f k = refl

-- the first argument, then the others, then what follows with all values
pub ons_cons : (x : ℕ → List ℕ → State → Result) (u : ℕ) (vs : List ℕ) (e : Expr) (es : Exprs) (s : State) (k : List ℕ → State → Result) →
    ons (evals x u vs (cons e es) s) k ≡ on (eval x u vs e s) (λ v t. ons (evals x u vs es t) (λ ws r. k (v ∷ ws) r))
ons_cons x u vs e es s k =
    ons_first (eval x u vs e s) (λ v t. more (evals x u vs es t) (λ ws r. values (v ∷ ws) r)) k
    ∙ ap (on (eval x u vs e s)) (fun_ext (λ v. fun_ext (λ t. ons_more (evals x u vs es t) (λ ws r. values (v ∷ ws) r) k)))

-- what holds of both ways holds of the chosen one
pub choose_both : (P : Result → Type 0) (v : ℕ) (a b : Result) → P a → P b → P (choose v a b)
choose_both P zero a b p q = q
choose_both P (suc v) a b p q = p

pub spend_both : (P : Result → Type 0) (n : ℕ) (s : State) (k : State → Result) →
    (n ≡ 0 → P (no_calls s)) → ((m : ℕ) → n ≡ suc m → P (k (with_left s m))) → P (spend n s k)
spend_both P zero s k none some = none refl
spend_both P (suc m) s k none some = some m refl

pub enter_both : (P : Result → Type 0) (o : Option Proc) (room : ℕ) (k : Proc → ℕ → Result) (s : State) →
    (o ≡ None → P bad) → ((p : Proc) → o ≡ Some p → room < frame p → P (no_room s)) → ((p : Proc) → o ≡ Some p → frame p ≤ room → P (k p (room - frame p))) →
    P (enter o room k s)
enter_both P None room k s missing full fits = missing refl
enter_both P (Some p) room k s missing full fits =
    cond_both (ltb room (frame p)) (no_room s) (k p (room - frame p)) P (λ h. full p refl (ltb-true room (frame p) h)) (λ h. fits p refl (ltb-false room (frame p) h))

pub through_both : (P : Result → Type 0) (o : Option Target) (k : Target → Result) → (o ≡ None → P bad) → ((t : Target) → o ≡ Some t → P (k t)) → P (through o k)
through_both P None k missing found = missing refl
through_both P (Some t) k missing found = found t refl
