-- Code that lies in other code: which word stands where, and the step that a machine takes there.
use Rattle.std.proofs.Common.{◌≡◌, ℕ, ◌+◌, List, ◌++◌, length, get_or, take, drop, Some, sym, ap, ◌∙◌, arith}
use Rattle.std.specs.List.{slice_get}
use Rattle.std.proofs.lemmas.List.{take-append-drop}
use Rattle.std.proofs.iter.runs.Lists.{nth_read, slice_get_within, nth_left, nth_drop, same_Some}
use Rattle.machine.specs.Machine.{Machine}
use Rattle.machine.specs.Instructions.{opcodes, act_at, step}
use Rattle.machine.proofs.Steps.{step_acts}

-- the words xs lie at c of the code
module _ (xs code : List ℕ) (c : ℕ) (lies : take (length xs) (drop c code) ≡ xs) where
  pub word_there : (j w : ℕ) → slice_get xs j ≡ Some w → slice_get code (c + j) ≡ Some w
  word_there j w there =
      sym (nth_drop c code j) ∙ ap (λ zs. slice_get zs j) (sym (take-append-drop (length xs) (drop c code))) ∙
      ap (λ ys. slice_get (ys ++ drop (length xs) (drop c code)) j) lies ∙ nth_left xs _ j (slice_get_within xs j w there) ∙ there

  operand_there : (p j n : ℕ) → p ≡ c + j → slice_get xs (j + 1) ≡ Some n → get_or code (p + 1) 0 ≡ n
  operand_there p j n place there =
      let e : p + 1 ≡ c + (j + 1) = omega arith in
      let h = word_there (j + 1) n there in
      rw e (same_Some _ _ (sym (nth_read code (c + (j + 1)) 0 (slice_get_within code (c + (j + 1)) n h)) ∙ h))

  -- a machine that runs and is at place j of them takes the instruction that stands there
  pub step_there : (m : Machine) (j w n : ℕ) → m.halted ≡ 0 → m.pc ≡ c + j → slice_get xs j ≡ Some w → slice_get xs (j + 1) ≡ Some n → step code m ≡ act_at m (slice_get opcodes w) n
  step_there m j w n runs place what operand = step_acts code m w n runs (rw place (word_there j w what)) (operand_there m.pc j n place operand)
