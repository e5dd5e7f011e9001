use Rattle.semantics.proofs.Company.{company}
use Rattle.semantics.proofs.laws.company_does_not_matter.Goals as goal

pub returns : goal.returns
returns c = company
