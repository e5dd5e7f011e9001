-- Two runs side by side, of which the second may have more room and more calls: what it means that they keep step, and that going on keeps it.
use Rattle.std.proofs.Common.{◌≡◌, ℕ, zero, suc, ◌-◌, ◌≤◌, true, ltb, List, Some, None, Option, sym, refl, ap, ◌∙◌, subst, le_trans, not-suc-le-zero, suc-ne-zero}
use Rattle.std.proofs.lemmas.Bool.{cond_both, cond-true, cond-false, ltb-false, le-ltb}
use Rattle.std.proofs.iter.runs.Lists.{same_Some}
use Rattle.rows.specs.Units.{Proc}
use Rattle.rows.specs.Frames.{frame}
use Rattle.semantics.specs.Runs.{State, with_left, Result, value, no_room, no_calls, bad, on, choose, Target, spend, enter, through}
use Rattle.semantics.specs.Whole.{Behaviour, done, without_calls, without_room, behaviour}
use Rattle.semantics.specs.Budgets.{put_out}
use Rattle.semantics.proofs.Grows.{Extends, Grows, on_extends}

-- states that differ at most in the units' words and in the calls left, which are in the relations W and L
pub record Alike (W : List (List ℕ) → List (List ℕ) → Type 0) (L : ℕ → ℕ → Type 0) (s s' : State) : Type 0 where
  pub words : W s.words s'.words
  pub tape : s.tape ≡ s'.tape
  pub outs : s.outs ≡ s'.outs
  pub left : L s.left s'.left

-- what comes of the second run where the first lacked something and ended as b: it puts out no less, and if it has no more of that it ends so too
pub record Follows (no_more : Type 0) (b : Behaviour) (r : Result) : Type 0 where
  pub longer : Extends (put_out b) r
  pub same : no_more → behaviour r ≡ Some b

-- the results of both, of which the states are in the relation A; the second has no more room if R, and no more calls if C
pub data Matched (R C : Type 0) (A : State → State → Type 0) : Result → Result → Type 0 where
  gives : {v v' : ℕ} {s s' : State} → v ≡ v' → A s s' → Matched R C A (value v s) (value v' s')
  lacks_room : {s : State} {r : Result} → Follows R (without_room s.outs) r → Matched R C A (no_room s) r
  lacks_calls : {s : State} {r : Result} → Follows C (without_calls s.outs) r → Matched R C A (no_calls s) r
  both_bad : Matched R C A bad bad

-- an end for want of something
abbrev Lacking : Behaviour → Type 0
Lacking (done ws) = ⊥
Lacking (without_calls ws) = Unit {0}
Lacking (without_room ws) = Unit {0}

on_ended : (b : Behaviour) → Lacking b → (r : Result) (k : ℕ → State → Result) → behaviour r ≡ Some b → behaviour (on r k) ≡ Some b
on_ended b h (value v s) k e = absurd (subst Lacking (sym (same_Some (done s.outs) b e)) h)
on_ended b h (no_room s) k e = e
on_ended b h (no_calls s) k e = e
on_ended b h bad k e = e

on_follows : (no_more : Type 0) (b : Behaviour) → Lacking b → (r : Result) (k : ℕ → State → Result) → Follows no_more b r → ((v : ℕ) → Grows (put_out b) (k v)) →
    Follows no_more b (on r k)
on_follows no_more b h r k f g = record { longer = on_extends (put_out b) r k f.longer g; same = λ l. on_ended b h r k (f.same l) }

module _ (R C : Type 0) (A : State → State → Type 0) where
  pub on_matched : {r r' : Result} (k k' : ℕ → State → Result) → Matched R C A r r' →
      ((v : ℕ) (s s' : State) → A s s' → Matched R C A (k v s) (k' v s')) → ((b : List ℕ) (v : ℕ) → Grows b (k' v)) → Matched R C A (on r k) (on r' k')
  on_matched k k' (gives {v = v} {s = s} {s' = s'} e a) f g = subst (λ w. Matched R C A (k v s) (k' w s')) e (f v s s' a)
  on_matched k k' (lacks_room {s = s} {r = r} m) f g = lacks_room (on_follows R (without_room s.outs) tt r k' m (g s.outs))
  on_matched k k' (lacks_calls {s = s} {r = r} m) f g = lacks_calls (on_follows C (without_calls s.outs) tt r k' m (g s.outs))
  on_matched k k' both_bad f g = both_bad

  pub choose_matched : (v : ℕ) {a b a' b' : Result} → Matched R C A a a' → Matched R C A b b' → Matched R C A (choose v a b) (choose v a' b')
  choose_matched zero m n = n
  choose_matched (suc v) m n = m

  -- with fewer facts about the states
  pub matched_less : {r r' : Result} (A₂ : State → State → Type 0) → ((s s' : State) → A s s' → A₂ s s') → Matched R C A r r' → Matched R C A₂ r r'
  matched_less A₂ f (gives {s = s} {s' = s'} e a) = gives e (f s s' a)
  matched_less A₂ f (lacks_room m) = lacks_room m
  matched_less A₂ f (lacks_calls m) = lacks_calls m
  matched_less A₂ f both_bad = both_bad

  pub spend_matched : (n n' : ℕ) (s s' : State) (k k' : State → Result) → n ≤ n' → (C → n ≡ n') → s.outs ≡ s'.outs → Extends s.outs (spend n' s' k') →
      ((m m' : ℕ) → n ≡ suc m → n' ≡ suc m' → Matched R C A (k (with_left s m)) (k' (with_left s' m'))) → Matched R C A (spend n s k) (spend n' s' k')
  spend_matched zero zero s s' k k' le eq outs longer f = lacks_calls (record { longer = longer; same = λ _. ap (λ ws. Some (without_calls ws)) (sym outs) })
  spend_matched zero (suc m') s s' k k' le eq outs longer f = lacks_calls (record { longer = longer; same = λ c. absurd (suc-ne-zero m' (sym (eq c))) })
  spend_matched (suc m) zero s s' k k' le eq outs longer f = absurd (not-suc-le-zero le)
  spend_matched (suc m) (suc m') s s' k k' le eq outs longer f = f m m' refl refl

  entered : (p : Proc) (room room' : ℕ) (k k' : Proc → ℕ → Result) (s s' : State) → room ≤ room' → (R → room ≡ room') → s.outs ≡ s'.outs →
      Extends s.outs (enter (Some p) room' k' s') → (frame p ≤ room → Matched R C A (k p (room - frame p)) (k' p (room' - frame p))) →
      Matched R C A (enter (Some p) room k s) (enter (Some p) room' k' s')
  entered p room room' k k' s s' le eq outs longer f =
      cond_both (ltb room (frame p)) (no_room s) (k p (room - frame p)) (λ r. Matched R C A r (enter (Some p) room' k' s'))
      (λ full. lacks_room (record {
        longer = longer;
        same = λ r.
            ap behaviour (cond-true (ltb room' (frame p)) (no_room s') _ (subst (λ n. ltb n (frame p) ≡ true) (eq r) full))
            ∙ ap (λ ws. Some (without_room ws)) (sym outs);
      }))
      (λ fits. let h = ltb-false room (frame p) fits in
      subst (Matched R C A (k p (room - frame p))) (sym (cond-false (ltb room' (frame p)) (no_room s') _ (le-ltb room' (frame p) (le_trans h le)))) (f h))

  pub enter_matched : (o o' : Option Proc) → o ≡ o' → (room room' : ℕ) (k k' : Proc → ℕ → Result) (s s' : State) → room ≤ room' → (R → room ≡ room') →
      s.outs ≡ s'.outs → Extends s.outs (enter o' room' k' s') → ((p : Proc) → frame p ≤ room → Matched R C A (k p (room - frame p)) (k' p (room' - frame p))) →
      Matched R C A (enter o room k s) (enter o' room' k' s')
  enter_matched None o' e room room' k k' s s' le eq outs longer f = subst (λ o. Matched R C A bad (enter o room' k' s')) e both_bad
  enter_matched (Some p) o' e room room' k k' s s' le eq outs longer f =
      subst (λ o. Extends s.outs (enter o room' k' s') → Matched R C A (enter (Some p) room k s) (enter o room' k' s')) e
      (λ g. entered p room room' k k' s s' le eq outs g (f p)) longer

-- what callees two look-ups find: neither any, or procedures of one number in units whose places P relates
pub data BothFind (P : ℕ → ℕ → Type 0) : Option Target → Option Target → Type 0 where
  neither : BothFind P None None
  both : {t t' : Target} → t.proc ≡ t'.proc → P t.unit t'.unit → BothFind P (Some t) (Some t')

pub through_matched : (R C : Type 0) (A : State → State → Type 0) (P : ℕ → ℕ → Type 0) {o o' : Option Target} (f f' : Target → Result) → BothFind P o o' →
    ((t t' : Target) → t.proc ≡ t'.proc → P t.unit t'.unit → Matched R C A (f t) (f' t')) → Matched R C A (through o f) (through o' f')
through_matched R C A P f f' neither m = both_bad
through_matched R C A P f f' (both {t = t} {t' = t'} p u) m = m t t' p u
