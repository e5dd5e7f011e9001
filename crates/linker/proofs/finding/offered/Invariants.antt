use Rattle.std.proofs.Common.{◌≡◌, length}
use Rattle.rows.specs.ObjectViews.{offers_in}
use Rattle.linker.specs.Linking.{offered}
use Rattle.linker.proofs.finding.offered.Given as goal

abbrev pub invariant-loop-words : goal.invariant-loop-words
invariant-loop-words l = offered l.proc l.args (offers_in l.left.rest.now) ≡ offered l.proc l.args (offers_in l.offers)

abbrev pub decreases-loop-words : goal.decreases-loop-words
decreases-loop-words l = length l.left.rest.now
