use Rattle.std.proofs.Common.{◌-◌, arith}
use Rattle.std.proofs.lemmas.List.{take_rest}
use Rattle.compiler.proofs.Sizes.{none_counted, too_few, none_sized, counted_more, counted_all}
use Rattle.compiler.proofs.measure.body_extent.Goals as goal

pub loop-pending-init : goal.loop-pending-init
loop-pending-init c = none_counted c.args.row.now

pub returns-then-pending-left : goal.returns-then-pending-left
returns-then-pending-left c = too_few _ _ _ _ c.loop-pending.invariant (omega arith)

pub returns-in_err-sign : goal.returns-in_err-sign
returns-in_err-sign c = rw c.from_residual.ensures (none_sized _ _ _ (c.loop-pending.pending - 1) _ (omega arith) c.loop-pending.invariant c.in_err-sign.ensures)

pub loop-pending-preserved : goal.loop-pending-preserved
loop-pending-preserved c = let e = c.in_ok-sign.ensures in counted_more _ _ _ _ _ (omega arith) c.loop-pending.invariant _ _ _ _ _ e.begins e.asked e.own (take_rest c.loop-pending.left.now c.in_ok-sign.sign.words)

pub overflow_add-size : goal.overflow_add-size
overflow_add-size c = omega (arith, (loop-pending-preserved c).small)

pub returns : goal.returns
returns c = counted_all _ _ _ _ (omega arith) c.loop-pending.invariant
