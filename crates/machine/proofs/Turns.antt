-- From what one instruction does to a step of the machine, and from steps to turns.
use Rattle.std.proofs.Common.{◌≡◌, ℕ, ◌+◌, ◌-◌, ◌*◌, ◌^◌, ◌<◌, ◌≤◌, Bool, true, false, cond, ◌&&◌, eqb, ltb, List, length, get_or, Some, None, sym, refl, ap, ◌∙◌, arith, ltb-true, eqb-true}
use Rattle.std.proofs.lemmas.Option.{slice_get-get_or}
use Rattle.std.specs.List.{slice_get}
use Rattle.machine.specs.declared.ending.Status.TheVariants.{Running}
use Rattle.machine.specs.declared.registers.Registers.{Registers}
use Rattle.machine.specs.declared.instruction.Instruction.{Instruction}
use Rattle.machine.specs.declared.opcode.Opcode.{Opcode}
use Rattle.machine.specs.declared.opcode.Opcode.TheVariants.{Halt, Push, Arg, Load, Store, Operate, JumpIfZero, Jump, Call, SetFrame, Return, Out, Next, Pop, Reserve, Release, Count}
use Rattle.machine.specs.Machine.{Machine}
use Rattle.machine.specs.Instructions.{opcodes, act, act_at, decode, unless_halted, step, steps}
use Rattle.machine.specs.Opcodes.{opcode_of, opcode_number}
use Rattle.machine.specs.Registers.{halted_as, machine, Fetched, operand_at, Within, Acted, Turned, WentOn}
use Rattle.machine.proofs.Steps.{steps_add}

-- a step with the instruction that the machine finds at pc
pub step_of : (code tape memory out : List ℕ) (r : Registers) (i : Instruction) → r.status ≡ Running → Fetched code r.pc (Some i) →
    step code (machine r memory tape out) ≡ act (opcode_of i.opcode) i.n (machine r memory tape out)
step_of code tape memory out r i runs e =
    let m = machine r memory tape out in
    ap (λ h. unless_halted h m (act_at m (decode (slice_get code r.pc)) (get_or code (r.pc + 1) 0))) (ap halted_as runs)
    ∙ ap (λ o. act_at m o (get_or code (r.pc + 1) 0)) e.0
    ∙ ap (λ n. act (opcode_of i.opcode) n m) e.1

-- an opcode stands in the table at its number
numbered : (o : Opcode) → slice_get opcodes (opcode_number (opcode_of o)) ≡ Some (opcode_of o)
numbered Halt = refl
numbered Push = refl
numbered Arg = refl
numbered Load = refl
numbered Store = refl
numbered Operate = refl
numbered JumpIfZero = refl
numbered Jump = refl
numbered Call = refl
numbered SetFrame = refl
numbered Return = refl
numbered Out = refl
numbered Next = refl
numbered Pop = refl
numbered Reserve = refl
numbered Release = refl
numbered Count = refl

-- the instruction of which only the operand was asked
pub operand_is : (code : List ℕ) (pc n : ℕ) (o : Opcode) → Some n ≡ operand_at code pc (opcode_number (opcode_of o)) → Fetched code pc (Some (record { opcode = o; n = n }))
operand_is code pc n o e = go (ltb (pc + 1) (length code)) (eqb (get_or code pc 0) (opcode_number (opcode_of o))) refl refl e
  where
    go : (a b : Bool) → ltb (pc + 1) (length code) ≡ a → eqb (get_or code pc 0) (opcode_number (opcode_of o)) ≡ b → Some n ≡ cond (a && b) (Some (get_or code (pc + 1) 0)) None →
        Fetched code pc (Some (record { opcode = o; n = n }))
    go true true s t e =
        let h = ltb-true (pc + 1) (length code) s in let l : pc < length code = omega arith in
        let k : get_or code (pc + 1) 0 ≡ n = cc in
        let w = eqb-true (get_or code pc 0) (opcode_number (opcode_of o)) t in
        (ap decode (slice_get-get_or code pc 0 l) ∙ ap (λ x. slice_get opcodes x) w ∙ numbered o, k)
    go true false s t e = let z : ◌≡◌ {A = ℕ} 0 1 = cc in absurd (omega arith)
    go false b s t e = let z : ◌≡◌ {A = ℕ} 0 1 = cc in absurd (omega arith)

pub stay : (code : List ℕ) (spare : ℕ) (r : Registers) (memory : List ℕ) → WentOn code spare r memory memory r 0
stay code spare r memory = record { is = λ tape out. refl; few = omega arith; put = refl; within = λ b h w. omega arith }

-- one instruction more
pub one_on : {code : List ℕ} {spare : ℕ} {r r' : Registers} {memory memory' : List ℕ} {i : Instruction} {opcode : Opcode} → r.status ≡ Running → 1 ≤ spare →
    Fetched code r.pc (Some i) → i.opcode ≡ opcode → Acted r r' memory memory' (act (opcode_of opcode) i.n) → WentOn code spare r memory memory' r' 1
one_on {code} {spare} {r} {r'} {memory} {memory'} {i} {opcode} runs few e same a = record {
  is = λ tape out. a.is tape out ∙ sym (step_of code tape memory out r i runs e ∙ ap (λ o. act (opcode_of o) i.n (machine r memory tape out)) same);
  few = few;
  put = a.put;
  within = λ b h w. let v = a.within b h w in omega arith;
}

-- one after the other
pub join : {code : List ℕ} {spare : ℕ} {r r₁ r₂ : Registers} {memory memory₁ memory₂ : List ℕ} {j k : ℕ} →
    WentOn code spare r memory memory₁ r₁ j → WentOn code (spare - j) r₁ memory₁ memory₂ r₂ k → WentOn code spare r memory memory₂ r₂ (j + k)
join {code} {spare} {r} {r₁} {r₂} {memory} {memory₁} {memory₂} {j} {k} a b = record {
  is = λ tape out. b.is tape out ∙ ap (steps k code) (a.is tape out) ∙ sym (steps_add j k code (machine r memory tape out));
  few = let f = a.few in let g = b.few in omega arith;
  put = b.put ∙ a.put;
  within = λ c h w. let v = b.within (c + 2 * j) (omega arith) (a.within c h w) in omega arith;
}

-- the instruction at pc, and what it went on with
pub turned : {code : List ℕ} {spare : ℕ} {r r₁ r' : Registers} {memory memory₁ memory' : List ℕ} {k : ℕ} {i : Instruction} {opcode : Opcode} (tape out : List ℕ) →
    r.status ≡ Running → r.put ≤ length out → Fetched code r.pc (Some i) → i.opcode ≡ opcode →
    Acted r r₁ memory memory₁ (act (opcode_of opcode) i.n) → WentOn code spare r₁ memory₁ memory' r' k →
    Turned code tape spare r memory memory' out out r' k
turned {code} {spare} {r} {r₁} {r'} {memory} {memory₁} {memory'} {k} {i} {opcode} tape out runs put e is a w = record {
  is = let m = machine r memory tape out in
      w.is tape out ∙ ap (steps k code) (a.is tape out ∙ sym (step_of code tape memory out r i runs e ∙ ap (λ o. act (opcode_of o) i.n m) is));
  few = w.few;
  grows = let p = w.put in let q = a.put in omega arith;
  put = let p = w.put in let q = a.put in omega arith;
  rest = refl;
  within = λ b h v. let x = w.within (b + 2) (omega arith) (a.within b h v) in omega arith;
}

-- a turn begins so far below the bound that it stays below it
pub near : {r r' : Registers} {memory memory' : List ℕ} {f : Machine → Machine} → Within (2 ^ 36) r → Acted r r' memory memory' f → Within (2 ^ 38) r'
near w a = let v = a.within (2 ^ 36) (omega arith) w in omega arith
