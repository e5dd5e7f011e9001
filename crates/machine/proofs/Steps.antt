-- Steps one after the other, and what a step does where the instruction is known.
use Rattle.std.proofs.Common.{◌≡◌, ℕ, zero, suc, ◌+◌, ◌-◌, Bool, true, false, cond, ltb, List, [], ◌∷◌, ◌++◌, get_or, Some, None, Option, sym, refl, ap, ◌∙◌, append_assoc, append-nil, suc-add, zero-add}
use Rattle.std.specs.List.{slice_get}
use Rattle.rows.specs.Operations.{Op, operations}
use Rattle.machine.specs.Machine.{Machine, halt, budget, top}
use Rattle.machine.specs.Instructions.{Opcode, Halt, Push, Arg, Load, Store, Operate, JumpIfZero, Jump, Call, SetFrame, Return, Out, Next, Pop, Reserve, Release, Count, opcodes, operate, branch, count_call, act, act_at, decode, unless_halted, step, steps}

pub steps_last : (k : ℕ) (code : List ℕ) (m : Machine) → steps (suc k) code m ≡ step code (steps k code m)
steps_last zero code m = refl
steps_last (suc k) code m = steps_last k code (step code m)

pub steps_add : (j k : ℕ) (code : List ℕ) (m : Machine) → steps (j + k) code m ≡ steps k code (steps j code m)
steps_add zero k code m = rw zero-add
steps_add (suc j) k code m = rw suc-add (steps_add j k code (step code m))

pub step_halted : (h : ℕ) (code : List ℕ) (m : Machine) → m.halted ≡ suc h → step code m ≡ m
step_halted h code m e = rw e

pub steps_halted : (k h : ℕ) (code : List ℕ) (m : Machine) → m.halted ≡ suc h → steps k code m ≡ m
steps_halted zero h code m e = refl
steps_halted (suc k) h code m e = rw (step_halted h code m e) (steps_halted k h code m e)

-- what a running machine does where its instruction is known
pub step_acts : (code : List ℕ) (m : Machine) (w n : ℕ) → m.halted ≡ 0 → slice_get code m.pc ≡ Some w → get_or code (m.pc + 1) 0 ≡ n → step code m ≡ act_at m (slice_get opcodes w) n
step_acts code m w n runs at operand =
    ap (λ h. unless_halted h m (act_at m (decode (slice_get code m.pc)) (get_or code (m.pc + 1) 0))) runs
    ∙ ap (λ o. act_at m (decode o) (get_or code (m.pc + 1) 0)) at
    ∙ ap (λ k. act_at m (slice_get opcodes w) k) operand

-- what has been put out stays: m' has put out what m has, and perhaps more
abbrev pub GoesOn : Machine → Machine → Type 0
GoesOn m m' = (more : List ℕ) × (m'.outs ≡ m.outs ++ more)

same_outs : (m m' : Machine) → m'.outs ≡ m.outs → GoesOn m m'
same_outs m m' e = ([], e ∙ sym (append-nil m.outs))

operate_outs : (m : Machine) (o : Option Op) → (operate m o).outs ≡ m.outs
operate_outs m None = refl
operate_outs m (Some o) = refl

branch_outs : (m : Machine) (v n : ℕ) → (branch m v n).outs ≡ m.outs
branch_outs m zero n = refl
branch_outs m (suc v) n = refl

count_outs : (m : Machine) (l : ℕ) → (count_call m l).outs ≡ m.outs
count_outs m zero = refl
count_outs m (suc l) = refl

cond_outs : (b : Bool) (m x y : Machine) → x.outs ≡ m.outs → y.outs ≡ m.outs → (cond b x y).outs ≡ m.outs
cond_outs true m x y p q = p
cond_outs false m x y p q = q

act_goes_on : (i : Opcode) (n : ℕ) (m : Machine) → GoesOn m (act i n m)
act_goes_on Halt n m = same_outs m (act Halt n m) refl
act_goes_on Push n m = same_outs m (act Push n m) refl
act_goes_on Arg n m = same_outs m (act Arg n m) refl
act_goes_on Load n m = same_outs m (act Load n m) refl
act_goes_on Store n m = same_outs m (act Store n m) refl
act_goes_on Operate n m = same_outs m (act Operate n m) (operate_outs m (slice_get operations n))
act_goes_on JumpIfZero n m = same_outs m (act JumpIfZero n m) (branch_outs m (top m) n)
act_goes_on Jump n m = same_outs m (act Jump n m) refl
act_goes_on Call n m = same_outs m (act Call n m) refl
act_goes_on SetFrame n m = same_outs m (act SetFrame n m) refl
act_goes_on Return n m = same_outs m (act Return n m) refl
act_goes_on Out n m = (top m ∷ [], refl)
act_goes_on Next n m = same_outs m (act Next n m) refl
act_goes_on Pop n m = same_outs m (act Pop n m) refl
act_goes_on Reserve n m = same_outs m (act Reserve n m) (cond_outs (ltb m.free n) m (halt m 3) (budget m (m.free - n) m.left) refl refl)
act_goes_on Release n m = same_outs m (act Release n m) refl
act_goes_on Count n m = same_outs m (act Count n m) (count_outs m m.left)

act_at_goes_on : (o : Option Opcode) (n : ℕ) (m : Machine) → GoesOn m (act_at m o n)
act_at_goes_on None n m = same_outs m (halt m 4) refl
act_at_goes_on (Some i) n m = act_goes_on i n m

unless_halted_goes_on : (h : ℕ) (m m' : Machine) → GoesOn m m' → GoesOn m (unless_halted h m m')
unless_halted_goes_on zero m m' g = g
unless_halted_goes_on (suc h) m m' g = same_outs m m refl

pub step_goes_on : (code : List ℕ) (m : Machine) → GoesOn m (step code m)
step_goes_on code m = unless_halted_goes_on m.halted m _ (act_at_goes_on (decode (slice_get code m.pc)) (get_or code (m.pc + 1) 0) m)

pub steps_go_on : (k : ℕ) (code : List ℕ) (m : Machine) → GoesOn m (steps k code m)
steps_go_on zero code m = same_outs m m refl
steps_go_on (suc k) code m = join (step_goes_on code m) (steps_go_on k code (step code m))
  where
    join : GoesOn m (step code m) → GoesOn (step code m) (steps k code (step code m)) → GoesOn m (steps k code (step code m))
    join g h = (g.0 ++ h.0, h.1 ∙ ap (λ xs. xs ++ h.0) g.1 ∙ append_assoc m.outs g.0 h.0)
