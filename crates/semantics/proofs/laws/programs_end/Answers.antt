use Rattle.semantics.proofs.NotBad.{ends}
use Rattle.semantics.proofs.Depth.{depth_bounds_nothing}
use Rattle.semantics.proofs.laws.programs_end.Goals as goal

pub returns : goal.returns
returns c = record { ends = ends; depth = depth_bounds_nothing }
