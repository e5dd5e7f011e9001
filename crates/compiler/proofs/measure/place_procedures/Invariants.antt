use Rattle.compiler.proofs.Starting.{Placing}
use Rattle.compiler.proofs.measure.place_procedures.Given as goal

abbrev pub invariant-loop-number : goal.invariant-loop-number
invariant-loop-number l = Placing l.procs l.left l.arities l.starts l.number l.at
