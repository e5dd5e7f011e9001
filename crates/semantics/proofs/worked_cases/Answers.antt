use Rattle.semantics.proofs.Cases.{worked, frames}
use Rattle.semantics.proofs.worked_cases.Goals as goal

pub returns : goal.returns
returns c = record { cases = worked; frames = frames }
