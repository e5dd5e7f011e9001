-- What more room or more calls change: one program beside itself.
use Rattle.std.proofs.Common.{◌≡◌, ℕ, ◌≤◌, ◌⊎◌, List, [], get_or, Some, None, Option, refl, ap, subst, ap₂, inl, inr, le_refl}
use Rattle.std.specs.List.{slice_get}
use Rattle.rows.specs.Units.{SourceUnit}
use Rattle.semantics.specs.Runs.{keep_at, Target, target, source}
use Rattle.semantics.specs.Whole.{Behaviour, done, without_calls, without_room, behaviour}
use Rattle.semantics.specs.Budgets.{EnoughCalls, EnoughRoom, MoreCalls, MoreRoom, BudgetsExact}
use Rattle.semantics.proofs.Seen.{NotForWant, Seen}
use Rattle.semantics.proofs.Matched.{BothFind, neither, both}
use Rattle.semantics.proofs.SideBySide.{Correspond, programs_seen}
use Rattle.semantics.proofs.Thresholds.{least}

find_same : (o : Option Target) → BothFind (◌≡◌ {A = ℕ}) o o
find_same None = neither
find_same (Some t) = both refl refl

with_itself : (us : List SourceUnit) → Correspond us us (◌≡◌ {A = ℕ}) (◌≡◌ {A = List (List ℕ)})
with_itself us = record {
  unit = λ i j e. ap (slice_get us) e;
  callee = λ i j e c. subst (λ k. BothFind (◌≡◌ {A = ℕ}) (target us i c) (target us k c)) e (find_same (target us i c));
  reads = λ i j e ws ws' w. ap₂ (λ xs k. get_or xs k []) w e;
  keeps = λ i j e ws ws' w n v. ap₂ (λ xs k. keep_at xs k n v) w e;
}

more_of_both : (us : List SourceUnit) (tape : List ℕ) (room room' calls calls' : ℕ) → room ≤ room' → calls ≤ calls' →
    Seen (room ≡ room') (calls ≡ calls') (behaviour (source us room tape calls)) (behaviour (source us room' tape calls'))
more_of_both us tape room room' calls calls' le le' =
    programs_seen us us (◌≡◌ {A = ℕ}) (◌≡◌ {A = List (List ℕ)}) (with_itself us) (room ≡ room') (calls ≡ calls') refl refl
    tape room room' calls calls' le (λ e. e) le' (λ e. e)

not_for_calls : (R C : Type 0) → R → (b : Behaviour) → EnoughCalls b → NotForWant R C b
not_for_calls R C r (done ws) h = tt
not_for_calls R C r (without_calls ws) h = absurd h
not_for_calls R C r (without_room ws) h = r

not_for_room : (R C : Type 0) → C → (b : Behaviour) → EnoughRoom b → NotForWant R C b
not_for_room R C c (done ws) h = tt
not_for_room R C c (without_calls ws) h = c
not_for_room R C c (without_room ws) h = absurd h

more_calls : MoreCalls
more_calls us room tape calls calls' le b h = (more_of_both us tape room room calls calls' (le_refl room) le).same_end b (not_for_calls (room ≡ room) (calls ≡ calls') refl b h)

more_room : MoreRoom
more_room us calls tape room room' le b h = (more_of_both us tape room room' calls calls le (le_refl calls)).same_end b (not_for_room (room ≡ room') (calls ≡ calls) refl b h)

calls_or_not : (b : Behaviour) → EnoughCalls b ⊎ ((ws : List ℕ) × (b ≡ without_calls ws))
calls_or_not (done ws) = inl tt
calls_or_not (without_calls ws) = inr (ws, refl)
calls_or_not (without_room ws) = inl tt

room_or_not : (b : Behaviour) → EnoughRoom b ⊎ ((ws : List ℕ) × (b ≡ without_room ws))
room_or_not (done ws) = inl tt
room_or_not (without_calls ws) = inl tt
room_or_not (without_room ws) = inr (ws, refl)

pub budgets : BudgetsExact
budgets = record {
  more_calls = more_calls;
  more_room = more_room;
  stays_done = λ us tape room room' calls calls' le le' ws. (more_of_both us tape room room' calls calls' le le').same_end (done ws) tt;
  goes_further = λ us tape room room' calls calls' le le'. (more_of_both us tape room room' calls calls' le le').beginning;
  least_calls = λ us room tape.
      least (λ n. behaviour (source us room tape n)) EnoughCalls without_calls calls_or_not (λ ws h. h) (more_calls us room tape)
      (λ n n' le. (more_of_both us tape room room n n' (le_refl room) le).both_end);
  least_room = λ us calls tape.
      least (λ n. behaviour (source us n tape calls)) EnoughRoom without_room room_or_not (λ ws h. h) (more_room us calls tape)
      (λ n n' le. (more_of_both us tape n n' calls calls le (le_refl calls)).both_end);
}
