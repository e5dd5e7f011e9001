use Rattle.semantics.proofs.Budgets.{budgets}
use Rattle.semantics.proofs.laws.budgets_are_exact.Goals as goal

pub returns : goal.returns
returns c = budgets
