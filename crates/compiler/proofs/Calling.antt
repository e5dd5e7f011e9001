-- Calls: what the machine is when a call has been entered, and what it is when the call has returned.
use Rattle.std.proofs.Common.{◌≡◌, ℕ, zero, suc, ◌+◌, ◌%◌, ◌^◌, ◌<◌, List, [], ◌∷◌, length, get_or, set, refl, ◌∙◌, add-zero, arith, length-set, get_or-set_other, get_or-set_same}
use lib.Seq.{take-set-le}
use Rattle.machine.specs.Machine.{Machine, at}
use Rattle.machine.specs.Instructions.{Call, act, steps}
use Rattle.semantics.specs.Runs.{State, Result, value, no_room, no_calls, bad}
use Rattle.semantics.specs.Relation.{total, CallSite, Entered, Returned, Outcome}
use Rattle.compiler.specs.Instructions.{Operand, Place, placed_word}
use Rattle.compiler.specs.Simulation.{Working}
use Rattle.compiler.proofs.Steps.{goes_on, halts_after}
use Rattle.compiler.proofs.Lying.{At}
use Rattle.compiler.proofs.Stack.{Stacked}
use Rattle.compiler.proofs.Outcomes.{ComesTo, goes_act}

module _ (code shape : List ℕ) (l : Place) (short : length code < 2 ^ 32) where
  module _ (a : ℕ) (y : Operand) (there : At code l a Call y) (vs ws : List ℕ) (p room h : ℕ) (s t : State) (m m₁ : Machine)
      (w : Working shape p vs room h s m) (c : Stacked shape (l.code + a) ws t m m₁) where
    abbrev pub site : CallSite
    site = record { base = m.sp; back = l.code + (a + 2); fp = m.fp }

    abbrev pub called : Machine
    called = act Call (placed_word l y) m₁

    -- a call writes two words on the stack and nothing else
    other : (j : ℕ) → j < m₁.sp → at called j ≡ at m₁ j
    other j h = get_or-set_other (set m₁.memory m₁.sp ((m₁.pc + 2) % 2 ^ 32)) (m₁.sp + 1) j (m₁.fp % 2 ^ 32) 0 (omega arith) ∙
        get_or-set_other m₁.memory m₁.sp j ((m₁.pc + 2) % 2 ^ 32) 0 (omega arith)

    same_length : length called.memory ≡ length m₁.memory
    same_length = simp length-set

    back : m.sp + (length ws + 1) < length m₁.memory → at called (m.sp + length ws) ≡ l.code + (a + 2)
    back h =
        let e : m.sp + length ws ≡ m₁.sp = omega arith in
        let f : (m₁.pc + 2) % 2 ^ 32 ≡ l.code + (a + 2) = omega arith in
        rw e (get_or-set_other (set m₁.memory m₁.sp ((m₁.pc + 2) % 2 ^ 32)) (m₁.sp + 1) m₁.sp (m₁.fp % 2 ^ 32) 0 (omega arith) ∙
        get_or-set_same m₁.memory m₁.sp ((m₁.pc + 2) % 2 ^ 32) 0 (omega arith) ∙ f)

    caller : m.sp + (length ws + 1) < length m₁.memory → at called (m.sp + (length ws + 1)) ≡ m.fp
    caller h =
        let e : m.sp + (length ws + 1) ≡ m₁.sp + 1 = omega arith in
        let f : m₁.fp % 2 ^ 32 ≡ m.fp = omega arith in
        rw e (get_or-set_same (set m₁.memory m₁.sp ((m₁.pc + 2) % 2 ^ 32)) (m₁.sp + 1) (m₁.fp % 2 ^ 32) 0 (simp length-set (omega arith)) ∙ f)

    pub enters : Entered shape (placed_word l y) site room ws t called
    enters = record {
      represents = record {
        sized = c.represents.sized;
        words = take-set-le (total shape) (set m₁.memory m₁.sp ((m₁.pc + 2) % 2 ^ 32)) (m₁.sp + 1) (m₁.fp % 2 ^ 32) (omega arith) ∙
            take-set-le (total shape) m₁.memory m₁.sp ((m₁.pc + 2) % 2 ^ 32) (omega arith) ∙ c.represents.words;
        tape = c.represents.tape;
        outs = c.represents.outs;
        left = c.represents.left;
        running = refl;
      };
      pc = refl;
      sp = omega arith;
      free = c.free ∙ w.free;
      room_word = w.room_word;
      above = omega arith;
      fits = simp length-set (omega arith);
      addressable = simp length-set (omega arith);
      arguments = λ j h. other (m.sp + j) (omega arith) ∙ c.values j h;
      return = λ h. (back (rw same_length at h), caller (rw same_length at h));
    }

    returned : (v : ℕ) (q : State) (m₂ : Machine) → Returned shape site v q called m₂ → Stacked shape (l.code + (a + 2)) (v ∷ []) q m m₂
    returned v q m₂ r = record {
      represents = r.represents;
      pc = r.pc;
      fp = r.fp;
      sp = r.sp;
      values = there_is;
      free = r.free ∙ c.free;
      memory = r.memory ∙ same_length ∙ c.memory;
      below = λ j h k. r.below j h k ∙ other j (omega arith) ∙ c.below j h k;
    }
      where
        there_is : (j : ℕ) → j < 1 → at m₂ (m.sp + j) ≡ get_or (v ∷ []) j 0
        there_is zero h = rw add-zero r.value
        there_is (suc j) h = absurd (omega arith)

    pub returns : (r : Result) → Outcome code shape site t.left called r → ComesTo code shape (l.code + (a + 2)) t.left m m₁ r
    returns (value v q) (n, few, r) = (steps n code called, goes_on (goes_act code shape l there c) (n, refl), few, returned v q (steps n code called) r)
    returns (no_room q) o = halts_after (goes_act code shape l there c) o
    returns (no_calls q) o = halts_after (goes_act code shape l there c) o
    returns bad o = tt
