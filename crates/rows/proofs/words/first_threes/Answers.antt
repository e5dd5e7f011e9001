use Rattle.std.proofs.Common.{◌∙◌}
use Rattle.rows.proofs.Threefold.{chunked_part}
use Rattle.rows.proofs.words.first_threes.Goals as goal

pub returns : goal.returns
returns c =
    let cut = c.in_ok-threes.ensures.cases in
    record { inside = cut.0; threes = c.as_chunks.ensures.front ∙ chunked_part c.args.count c.args.row.now _ cut.0 cut.1; rest = cut.2 }
