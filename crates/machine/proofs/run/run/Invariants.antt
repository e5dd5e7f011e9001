use Rattle.machine.proofs.Runs.{UnderWay}
use Rattle.machine.proofs.run.run.Given as goal

abbrev pub invariant-loop-left : goal.invariant-loop-left
invariant-loop-left l = UnderWay l.code l.tape l.steps l.initial.r l.initial.memory l.initial.out l.left l.r l.memory l.out

abbrev pub decreases-loop-left : goal.decreases-loop-left
decreases-loop-left l = l.left
