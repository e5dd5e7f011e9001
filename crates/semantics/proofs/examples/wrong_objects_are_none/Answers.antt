use Rattle.semantics.proofs.Wrong.{wrong, nearly_right}
use Rattle.semantics.proofs.examples.wrong_objects_are_none.Goals as goal

pub returns : goal.returns
returns c = record { wrong = wrong; nearly = nearly_right }
