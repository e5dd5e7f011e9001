use Rattle.std.proofs.Common.{arith}
use Rattle.compiler.proofs.Filling.{rest_behind}
use Rattle.compiler.proofs.filled.Filled.put.Goals as goal

pub returns-clause-rest : goal.returns-clause-rest
returns-clause-rest c = rest_behind _ _ _ _ _ c.args.self.now.inside (omega arith) (omega arith)
