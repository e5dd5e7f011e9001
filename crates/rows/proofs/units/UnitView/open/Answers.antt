use Rattle.std.proofs.Common.{sym, ◌∙◌}
use Rattle.rows.proofs.UnitReading.{opened_where, wants_wrong}
use Rattle.rows.proofs.units.UnitView.open.Goals as goal
use Rattle.rows.proofs.units.UnitView.open.Goals.{then-wants_small, else-wants_small}

pub returns : goal.returns
returns c = rw c.then_some.ensures (elim c.if-wants_small.branch [
  | then-wants_small w ↦ rw w.then_some-is (opened_where _ _ c.in_ok-view.ensures _ w.if-wants_small.ensures w.offers_below.ensures)
  | else-wants_small w ↦ rw (w.then_some-is ∙ (c.wants_small.ensures ∙ sym w.if-wants_small.ensures)) (wants_wrong _ _ c.in_ok-view.ensures (sym w.if-wants_small.ensures))
])
