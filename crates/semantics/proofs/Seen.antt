-- What is seen of two runs that keep step.
use Rattle.std.proofs.Common.{◌≡◌, ℕ, List, Some, Option, sym, refl, ap, ◌∙◌, subst}
use Rattle.std.proofs.iter.runs.Lists.{none-some, same_Some}
use Rattle.semantics.specs.Runs.{State, Result, value, no_room, no_calls, bad}
use Rattle.semantics.specs.Whole.{Behaviour, done, without_calls, without_room, behaviour}
use Rattle.semantics.specs.Budgets.{Begins, put_out}
use Rattle.semantics.proofs.Grows.{Extends, begins_same}
use Rattle.semantics.proofs.Matched.{Matched, gives, lacks_room, lacks_calls, both_bad}

-- an end that was not for want of what the second run has more of
abbrev pub NotForWant : Type 0 → Type 0 → Behaviour → Type 0
NotForWant R C (done ws) = Unit {0}
NotForWant R C (without_calls ws) = C
NotForWant R C (without_room ws) = R

pub record Seen (R C : Type 0) (o o' : Option Behaviour) : Type 0 where
  pub same_end : (b : Behaviour) → NotForWant R C b → o ≡ Some b → o' ≡ Some b
  pub beginning : (b b' : Behaviour) → o ≡ Some b → o' ≡ Some b' → Begins (put_out b) (put_out b')
  pub both_end : (b' : Behaviour) → o' ≡ Some b' → (b : Behaviour) × (o ≡ Some b)

extends_behaviour : (ws : List ℕ) (r : Result) (b : Behaviour) → Extends ws r → behaviour r ≡ Some b → Begins ws (put_out b)
extends_behaviour ws (value v s) b h e = subst (λ c. Begins ws (put_out c)) (same_Some (done s.outs) b e) h
extends_behaviour ws (no_room s) b h e = subst (λ c. Begins ws (put_out c)) (same_Some (without_room s.outs) b e) h
extends_behaviour ws (no_calls s) b h e = subst (λ c. Begins ws (put_out c)) (same_Some (without_calls s.outs) b e) h
extends_behaviour ws bad b h e = absurd (none-some b e)

module _ (R C : Type 0) (A : State → State → Type 0) (outs : (s s' : State) → A s s' → s.outs ≡ s'.outs) where
  same_end : {r r' : Result} → Matched R C A r r' → (b : Behaviour) → NotForWant R C b → behaviour r ≡ Some b → behaviour r' ≡ Some b
  same_end (gives {s = s} {s' = s'} v a) b l e = ap (λ ws. Some (done ws)) (sym (outs s s' a)) ∙ e
  same_end (lacks_room {s = s} m) b l e = m.same (subst (NotForWant R C) (sym (same_Some (without_room s.outs) b e)) l) ∙ e
  same_end (lacks_calls {s = s} m) b l e = m.same (subst (NotForWant R C) (sym (same_Some (without_calls s.outs) b e)) l) ∙ e
  same_end both_bad b l e = absurd (none-some b e)

  goes_further : {r r' : Result} → Matched R C A r r' → (b : Behaviour) → behaviour r ≡ Some b → Extends (put_out b) r'
  goes_further (gives {s = s} {s' = s'} v a) b e = begins_same (sym (ap put_out (same_Some (done s.outs) b e)) ∙ outs s s' a)
  goes_further (lacks_room {s = s} {r = r} m) b e = subst (λ c. Extends (put_out c) r) (same_Some (without_room s.outs) b e) m.longer
  goes_further (lacks_calls {s = s} {r = r} m) b e = subst (λ c. Extends (put_out c) r) (same_Some (without_calls s.outs) b e) m.longer
  goes_further both_bad b e = absurd (none-some b e)

  both_end : {r r' : Result} → Matched R C A r r' → (b' : Behaviour) → behaviour r' ≡ Some b' → (b : Behaviour) × (behaviour r ≡ Some b)
  both_end (gives {s = s} v a) b' e' = (done s.outs, refl)
  both_end (lacks_room {s = s} m) b' e' = (without_room s.outs, refl)
  both_end (lacks_calls {s = s} m) b' e' = (without_calls s.outs, refl)
  both_end both_bad b' e' = absurd (none-some b' e')

  pub seen : (r r' : Result) → Matched R C A r r' → Seen R C (behaviour r) (behaviour r')
  seen r r' m = record { same_end = same_end m; beginning = λ b b' e. extends_behaviour (put_out b) r' b' (goes_further m b e); both_end = both_end m }
