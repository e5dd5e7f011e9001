use Rattle.std.proofs.Common.{map, refl, ap, ◌∙◌}
use Rattle.rows.specs.ObjectViews.{want_in}
use Rattle.rows.proofs.WantRows.{said_by_threes}
use Rattle.rows.proofs.units.whole_wants.Goals as goal

pub returns : goal.returns
returns c = ap (map want_in) c.as_chunks.ensures.front ∙ said_by_threes _ c.args.words.now refl
