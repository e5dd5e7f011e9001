use Rattle.compiler.proofs.Worked.{worked}
use Rattle.compiler.proofs.worked_objects.Goals as goal

pub returns : goal.returns
returns c = worked
