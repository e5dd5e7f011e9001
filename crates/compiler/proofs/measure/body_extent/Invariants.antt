use Rattle.std.proofs.Common.{length}
use Rattle.compiler.proofs.Sizes.{Counted}
use Rattle.compiler.proofs.measure.body_extent.Given as goal

abbrev pub invariant-loop-pending : goal.invariant-loop-pending
invariant-loop-pending l = Counted l.row l.left l.pending l.size

abbrev pub decreases-loop-pending : goal.decreases-loop-pending
decreases-loop-pending l = length l.left
