use Rattle.std.proofs.Common.{◌≡◌}
use Rattle.compiler.specs.Filling.{filled, rest}
use Rattle.compiler.proofs.OfferRows.{OffersWritten}
use Rattle.compiler.proofs.layout.Layout.write_offers.Given as goal

abbrev pub invariant-loop-offer : goal.invariant-loop-offer
invariant-loop-offer l = OffersWritten l.self.arities.now l.self.starts.now l.self.view.offers.now (filled l.initial.row) (rest l.initial.row) (filled l.row) (rest l.row) l.offer-index × (l.row.words.ghost_name ≡ l.initial.row.words.ghost_name)
