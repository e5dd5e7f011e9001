use Rattle.semantics.proofs.Smallest.{smallest_object_is_one}
use Rattle.semantics.proofs.examples.smallest_object_is_one.Goals as goal

pub returns : goal.returns
returns c = smallest_object_is_one
