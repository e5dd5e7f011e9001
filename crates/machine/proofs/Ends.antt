-- The two ends of a machine: what it puts out and what it takes from its tape.
use Rattle.std.proofs.Common.{◌≡◌, ℕ, ◌+◌, ◌-◌, ◌<◌, ◌≤◌, List, [], ◌∷◌, ◌++◌, length, get_or, take, drop, set, sym, refl, ap, ◌∙◌, add-zero, arith}
use Rattle.std.proofs.lemmas.List.{take_more_set, drop-set-lt, drop-drop, get_or-drop, drop_all}
use Rattle.machine.specs.declared.ending.Status.TheVariants.{Running}
use Rattle.machine.specs.declared.registers.Registers.{Registers}
use Rattle.machine.specs.Registers.{halted_as, OneOut, TookNext}

pub one_out : (r : Registers) (memory out : List ℕ) (v : ℕ) → r.status ≡ Running → r.put < length out → v ≡ get_or memory (r.sp - 1) 0 →
    OneOut r (record { pc = r.pc + 2; fp = r.fp; sp = r.sp; free = r.free; left = r.left; read = r.read; put = r.put + 1; status = r.status }) memory out (set out r.put v)
one_out r memory out v runs less is = record {
  is = λ tape i. record { pc = r.pc + 2; fp = r.fp; sp = r.sp; memory = memory; free = r.free; left = r.left; tape = drop r.read tape; outs = outs i; halted = ap halted_as runs i };
  grows = omega arith;
  put = omega arith;
  rest = drop-set-lt (r.put + 1) out r.put v (omega arith);
  within = λ b h w. omega arith;
}
  where
    outs : take (r.put + 1) (set out r.put v) ≡ take r.put out ++ (get_or memory (r.sp - 1) 0 ∷ [])
    outs = take_more_set out r.put v less ∙ ap (λ x. take r.put out ++ (x ∷ [])) is

pub took_next : (r : Registers) (tape memory memory' : List ℕ) (v read : ℕ) → r.status ≡ Running → v ≡ get_or tape r.read 0 → memory' ≡ set memory r.sp v → drop read tape ≡ drop (r.read + 1) tape →
    TookNext r tape memory memory' (record { pc = r.pc + 2; fp = r.fp; sp = r.sp + 1; free = r.free; left = r.left; read = read; put = r.put; status = r.status })
took_next r tape memory memory' v read runs is kept rest = record {
  is = λ out i. record { pc = r.pc + 2; fp = r.fp; sp = r.sp + 1; memory = words i; free = r.free; left = r.left; tape = left i; outs = take r.put out; halted = ap halted_as runs i };
  put = refl;
  within = λ b h w. omega arith;
}
  where
    words : memory' ≡ set memory r.sp (get_or (drop r.read tape) 0 0)
    words = kept ∙ ap (λ x. set memory r.sp x) (is ∙ sym (get_or-drop r.read tape 0 0 ∙ ap (λ n. get_or tape n 0) (add-zero r.read)))

    left : drop read tape ≡ drop 1 (drop r.read tape)
    left = rest ∙ sym (drop-drop 1 r.read tape)

-- at the tape's end there is nothing more to take
pub at_end : (tape : List ℕ) (n : ℕ) → length tape ≤ n → drop n tape ≡ drop (n + 1) tape
at_end tape n h = drop_all n tape h ∙ sym (drop_all (n + 1) tape (omega arith))
