-- How runs of the machine end: a machine that has ended stays so, and what it puts out before is a beginning of all that it puts out.
use Rattle.std.proofs.Common.{◌≡◌, ℕ, zero, suc, ◌+◌, ◌-◌, ◌≤◌, List, Some, sym, refl, ap, ◌∙◌, add_comm, arith}
use Rattle.std.proofs.iter.runs.Lists.{none-some, same_Some}
use Rattle.machine.specs.Machine.{Machine}
use Rattle.machine.specs.Instructions.{steps}
use Rattle.machine.proofs.Steps.{steps_add, steps_halted, steps_go_on}
use Rattle.semantics.specs.Whole.{Behaviour, done, without_calls, without_room, halted_behaviour, machine_behaviour}
use Rattle.semantics.specs.Budgets.{Begins, put_out}

behaves_halted : (h : ℕ) (outs : List ℕ) (b : Behaviour) → halted_behaviour h outs ≡ Some b → (k : ℕ) × (h ≡ suc k)
behaves_halted zero outs b e = absurd (none-some b e)
behaves_halted (suc k) outs b e = (k, refl)

-- the words of a machine that has ended are those that its behaviour says
shows_outs : (h : ℕ) (outs : List ℕ) (b : Behaviour) → halted_behaviour h outs ≡ Some b → outs ≡ put_out b
shows_outs zero outs b e = absurd (none-some b e)
shows_outs (suc zero) outs b e = ap put_out (same_Some (done outs) b e)
shows_outs (suc (suc zero)) outs b e = ap put_out (same_Some (without_calls outs) b e)
shows_outs (suc (suc (suc zero))) outs b e = ap put_out (same_Some (without_room outs) b e)
shows_outs (suc (suc (suc (suc h)))) outs b e = absurd (none-some b e)

-- once a machine has ended it goes on having ended so
later : (a c : ℕ) (code : List ℕ) (m : Machine) (b : Behaviour) → machine_behaviour (steps a code m) ≡ Some b → machine_behaviour (steps (a + c) code m) ≡ Some b
later a c code m b e =
    let h = behaves_halted (steps a code m).halted (steps a code m).outs b e in
    rw (steps_add a c code m, steps_halted c h.0 code (steps a code m) h.1) e

-- so it ends in one way
pub ends_once : (code : List ℕ) (m : Machine) (n n' : ℕ) (b b' : Behaviour) → machine_behaviour (steps n code m) ≡ Some b → machine_behaviour (steps n' code m) ≡ Some b' → b ≡ b'
ends_once code m n n' b b' e e' = same_Some _ _ (sym (rw (add_comm n n') at (later n n' code m b e)) ∙ later n' n code m b' e')

-- a machine that ends so, whenever one looks
module _ (code : List ℕ) (m : Machine) (n : ℕ) (b : Behaviour) (ends : machine_behaviour (steps n code m) ≡ Some b) (k : ℕ) where
  ends_after : machine_behaviour (steps n code (steps k code m)) ≡ Some b
  ends_after = rw (add_comm n k, steps_add k n code m) at (later n k code m b ends)

  -- what it has put out is a beginning of what it puts out
  pub begins : Begins (steps k code m).outs (put_out b)
  begins = let more = steps_go_on n code (steps k code m) in (more.0, sym (shows_outs (steps n code (steps k code m)).halted (steps n code (steps k code m)).outs b ends_after) ∙ more.1)

  -- one that has halted has ended so
  pub halted_so : (h : ℕ) → (steps k code m).halted ≡ suc h → machine_behaviour (steps k code m) ≡ Some b
  halted_so h e = rw (steps_halted n h code (steps k code m) e) at ends_after

  -- and it runs no longer once it has ended
  pub runs_no_more : n ≤ k → (steps k code m).halted ≡ 0 → ⊥
  runs_no_more le running =
      let same : n + (k - n) ≡ k = omega arith in
      none-some b (sym (ap (λ h. halted_behaviour h (steps k code m).outs) running) ∙ (rw same at (later n (k - n) code m b ends)))
