use Rattle.std.proofs.Common.{◌+◌, ◌*◌, ◌^◌}
use Rattle.rows.proofs.bodies.Scope.+expression_expressions.Given as goal

-- the parts of an expression are one less deep, and of several expressions one is left less each time
abbrev pub decreases-expression : goal.decreases-expression
decreases-expression l = l.depth * 2 ^ 33

abbrev pub decreases-expressions : goal.decreases-expressions
decreases-expressions l = l.depth * 2 ^ 33 + 1 + l.count
