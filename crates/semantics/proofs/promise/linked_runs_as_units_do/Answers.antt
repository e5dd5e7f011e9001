use Rattle.semantics.proofs.Alone.{keeps_others}
use Rattle.semantics.proofs.Linkable.{links_if_linkable}
use Rattle.semantics.proofs.Promised.{demands}
use Rattle.semantics.proofs.promise.linked_runs_as_units_do.Goals as goal

pub returns : goal.returns
returns c = record { demands = demands; linkable = links_if_linkable; others = keeps_others }
