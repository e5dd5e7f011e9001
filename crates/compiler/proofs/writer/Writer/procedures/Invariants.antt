use Rattle.compiler.specs.Writing.{state}
use Rattle.compiler.specs.Laying.{outline_in, callees_in}
use Rattle.compiler.proofs.Assembling.{Assembled}
use Rattle.compiler.proofs.writer.Writer.procedures.Given as goal

abbrev pub invariant-loop-number : goal.invariant-loop-number
invariant-loop-number l = Assembled (outline_in l.layout) (callees_in l.layout) l._number (state l.initial.self) (state l.self)
