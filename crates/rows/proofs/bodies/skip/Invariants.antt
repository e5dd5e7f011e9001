use Rattle.std.proofs.Common.{length}
use Rattle.rows.proofs.Skipping.{Pending}
use Rattle.rows.proofs.bodies.skip.Given as goal

abbrev pub invariant-loop-pending : goal.invariant-loop-pending
invariant-loop-pending l = Pending l.row l.left l.pending

abbrev pub decreases-loop-pending : goal.decreases-loop-pending
decreases-loop-pending l = length l.left
