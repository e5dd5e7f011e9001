-- A run by turns: what stays true from turn to turn.
use Rattle.std.proofs.Common.{◌≡◌, ℕ, suc, ◌+◌, ◌-◌, ◌*◌, ◌^◌, ◌<◌, ◌≤◌, List, length, drop, sym, refl, ap, ◌∙◌, arith, length-append}
use Rattle.std.proofs.lemmas.List.{drop-drop}
use Rattle.machine.specs.declared.ending.Status.{Status}
use Rattle.machine.specs.declared.ending.Status.TheVariants.{Running, Done, NoCalls, NoRoom, Wild}
use Rattle.machine.specs.declared.registers.Registers.{Registers}
use Rattle.machine.specs.Machine.{Machine}
use Rattle.machine.specs.Instructions.{step, steps}
use Rattle.machine.specs.Registers.{halted_as, machine, Within, Turned, RanTo}
use Rattle.machine.proofs.Steps.{steps_add, steps_halted, steps_go_on}

-- of the run's k steps from the registers `start`, `left` are left, and the machine stands at r
pub record UnderWay (code tape : List ℕ) (k : ℕ) (start : Registers) (memory₀ out₀ : List ℕ) (left : ℕ) (r : Registers) (memory out : List ℕ) : Type 0 where
  pub is : steps left code (machine r memory tape out) ≡ steps k code (machine start memory₀ tape out₀)
  pub few : left ≤ k
  pub put : r.put ≤ length out
  pub rest : drop r.put out ≡ drop r.put out₀
  pub within : Within (2 ^ 34 + 2 * (k - left)) r

drop_further : (a b : ℕ) (xs ys : List ℕ) → a ≤ b → drop a xs ≡ drop a ys → drop b xs ≡ drop b ys
drop_further a b xs ys h e = at xs ∙ ap (drop (b - a)) e ∙ sym (at ys)
  where
    at : (zs : List ℕ) → drop b zs ≡ drop (b - a) (drop a zs)
    at zs = let s : b ≡ a + (b - a) = omega arith in ap (λ n. drop n zs) s ∙ sym (drop-drop (b - a) a zs)

pub begins : (code tape : List ℕ) (k : ℕ) (start : Registers) (memory out : List ℕ) → start.put ≤ length out → Within (2 ^ 34) start → UnderWay code tape k start memory out k start memory out
begins code tape k start memory out put w = record { is = refl; few = omega arith; put = put; rest = refl; within = omega arith }

pub goes_on : {code tape : List ℕ} {k left : ℕ} {start r r' : Registers} {memory₀ out₀ memory out memory' out' : List ℕ} {more : ℕ} → 0 < left → length out' ≡ length out →
    UnderWay code tape k start memory₀ out₀ left r memory out → Turned code tape (left - 1) r memory memory' out out' r' more →
    UnderWay code tape k start memory₀ out₀ (left - 1 - more) r' memory' out'
goes_on {code} {tape} {k} {left} {start} {r} {r'} {memory₀} {out₀} {memory} {out} {memory'} {out'} {more} pos long u t = record {
  is = ap (steps (left - 1 - more) code) t.is ∙ sym (steps_add (suc more) (left - 1 - more) code (machine r memory tape out)) ∙ ap (λ n. steps n code (machine r memory tape out)) sum ∙ u.is;
  few = let f = u.few in omega arith;
  put = let p = t.put in omega arith;
  rest = t.rest ∙ drop_further r.put r'.put out out₀ t.grows u.rest;
  within = let f = u.few in let g = t.few in let w = t.within (2 ^ 34 + 2 * (k - left)) (omega arith) u.within in omega arith;
}
  where
    sum : suc more + (left - 1 - more) ≡ left
    sum = let f = t.few in omega arith

halted_suc : (s : Status) → (s ≡ Running → ⊥) → (h : ℕ) × (halted_as s ≡ suc h)
halted_suc Running n = absurd (n refl)
halted_suc Done n = (0, refl)
halted_suc NoCalls n = (1, refl)
halted_suc NoRoom n = (2, refl)
halted_suc Wild n = (3, refl)

pub ends_halted : {code tape : List ℕ} {k left : ℕ} {start r : Registers} {memory₀ out₀ memory out : List ℕ} → length out ≡ length out₀ →
    UnderWay code tape k start memory₀ out₀ left r memory out → (r.status ≡ Running → ⊥) → RanTo code tape k start memory₀ memory out₀ out r
ends_halted {code} {tape} {k} {left} {start} {r} {memory₀} {out₀} {memory} {out} long u stopped = record {
  is = let h = halted_suc r.status stopped in sym (steps_halted left h.0 code (machine r memory tape out) h.1) ∙ u.is;
  put = let p = u.put in omega arith;
  rest = u.rest;
}

pub ends_spent : {code tape : List ℕ} {k left : ℕ} {start r : Registers} {memory₀ out₀ memory out : List ℕ} → length out ≡ length out₀ →
    UnderWay code tape k start memory₀ out₀ left r memory out → left ≤ 0 → RanTo code tape k start memory₀ memory out₀ out r
ends_spent {code} {tape} {k} {left} {start} {r} {memory₀} {out₀} {memory} {out} long u spent = record {
  is = let z : left ≡ 0 = omega arith in ap (λ n. steps n code (machine r memory tape out)) (sym z) ∙ u.is;
  put = let p = u.put in omega arith;
  rest = u.rest;
}

-- where one step puts out more than out holds, so do all that are left
pub ends_full : {code tape : List ℕ} {k left : ℕ} {start r : Registers} {memory₀ out₀ memory out : List ℕ} → length out ≡ length out₀ → 0 < left →
    UnderWay code tape k start memory₀ out₀ left r memory out → length out < length (step code (machine r memory tape out)).outs →
    length out₀ < length (steps k code (machine start memory₀ tape out₀)).outs
ends_full {code} {tape} {k} {left} {start} {r} {memory₀} {out₀} {memory} {out} long pos u full =
    let m = machine r memory tape out in
    let g = steps_go_on (left - 1) code (step code m) in
    let one : suc (left - 1) ≡ left = omega arith in
    let all = ap (λ n. (steps n code m).outs) one ∙ ap (λ (x : Machine). x.outs) u.is in
    let grown = simp length-append at (ap length (sym all ∙ g.1)) in
    omega arith
