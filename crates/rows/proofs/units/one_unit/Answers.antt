use Rattle.rows.proofs.OneUnit.{one_unit}
use Rattle.rows.proofs.units.one_unit.Goals as goal

pub returns : goal.returns
returns c = one_unit
