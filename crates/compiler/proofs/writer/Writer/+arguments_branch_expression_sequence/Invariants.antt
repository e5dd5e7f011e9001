use Rattle.std.proofs.Common.{◌+◌, ◌*◌}
use Rattle.compiler.specs.Writing.{state}
use Rattle.compiler.proofs.WrittenParts.{Several}
use Rattle.compiler.proofs.writer.Writer.+arguments_branch_expression_sequence.Given as goal

-- the parts of an expression are one less deep
abbrev pub decreases-expression : goal.decreases-expression
decreases-expression l = l.depth * 2

abbrev pub decreases-arguments : goal.decreases-arguments
decreases-arguments l = l.depth * 2 + 1

abbrev pub decreases-sequence : goal.decreases-sequence
decreases-sequence l = l.depth * 2 + 1

abbrev pub decreases-branch : goal.decreases-branch
decreases-branch l = l.depth * 2 + 1

-- so many of the arguments are written
abbrev pub invariant-arguments-loop-before : goal.invariant-arguments-loop-before
invariant-arguments-loop-before l = Several l.names l.depth l.before l.height (state l.initial.self) (state l.self)
