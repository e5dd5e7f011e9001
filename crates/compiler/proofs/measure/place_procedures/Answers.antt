use Rattle.std.proofs.Common.{arith, rules}
use Rattle.std.proofs.lemmas.List.{take_rest, length-drop}
use Rattle.compiler.proofs.Starting.{sized_small, none_placed, no_proc, many_args, no_body, one_placed, all_placed}
use Rattle.compiler.proofs.measure.place_procedures.Goals as goal

pub loop-number-init : goal.loop-number-init
loop-number-init c = none_placed _ _ _

pub returns-in_default : goal.returns-in_default
returns-in_default c = no_proc _ _ _ _ _ _ _ c.loop-number.invariant c.loop-number-test.true (search rules)

pub loop-number-preserved : goal.loop-number-preserved
loop-number-preserved c = one_placed _ _ _ _ _ _ _ c.loop-number.invariant c.loop-number-test.true _ _ (search rules) (search rules) c.in_ok-extent.ensures (search rules) (search rules)

pub returns : goal.returns
returns c = rw c.then_some.ensures (all_placed _ _ _ _ _ _ _ _ c.loop-number.invariant (omega arith) (search rules) c.is_empty.ensures)

pub returns-then-args-gt-MOST_ARGS : goal.returns-then-args-gt-MOST_ARGS
returns-then-args-gt-MOST_ARGS c = many_args _ _ c.loop-number.arities c.loop-number.starts _ _ _ c.loop-number.invariant c.loop-number-test.true c.if-args-gt-MOST_ARGS.true

pub returns-in_err-extent : goal.returns-in_err-extent
returns-in_err-extent c = rw c.from_residual.ensures (no_body _ _ c.loop-number.arities c.loop-number.starts _ _ _ c.loop-number.invariant c.loop-number-test.true (search rules) c.in_err-extent.ensures)

pub overflow_add-at : goal.overflow_add-at
overflow_add-at c = omega (arith, simp (take_rest, length-drop) at (sized_small _ _ _ c.in_ok-extent.ensures), c.loop-number.invariant.read.shorter, c.requires.short)

pub overflow_add-at-in-loop-number : goal.overflow_add-at-in-loop-number
overflow_add-at-in-loop-number c = omega (arith, simp (take_rest, length-drop) at (sized_small _ _ _ c.in_ok-extent.ensures), c.loop-number.invariant.small, c.loop-number.invariant.read.shorter, c.requires.short)
