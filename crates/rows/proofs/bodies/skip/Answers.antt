use Rattle.std.proofs.Common.{◌-◌, arith}
use Rattle.std.proofs.lemmas.List.{take_rest}
use Rattle.rows.proofs.Skipping.{one_pending, parts_pending, too_short, none_skipped, all_skipped}
use Rattle.rows.proofs.bodies.skip.Goals as goal

pub loop-pending-init : goal.loop-pending-init
loop-pending-init c = one_pending c.args.row.now

pub returns-in_err-sign : goal.returns-in_err-sign
returns-in_err-sign c = rw c.from_residual.ensures (none_skipped _ _ _ (c.loop-pending.pending - 1) (omega arith) c.loop-pending.invariant c.in_err-sign.ensures)

pub loop-pending-preserved : goal.loop-pending-preserved
loop-pending-preserved c = parts_pending _ _ _ _ (omega arith) c.loop-pending.invariant _ _ _ _ c.in_ok-sign.ensures c.parts.ensures (take_rest c.loop-pending.left.now c.in_ok-sign.size)

pub returns : goal.returns
returns c = all_skipped _ _ _ (omega arith) c.loop-pending.invariant

pub returns-then-pending-left : goal.returns-then-pending-left
returns-then-pending-left c = too_short _ _ _ c.loop-pending.invariant (omega arith)
