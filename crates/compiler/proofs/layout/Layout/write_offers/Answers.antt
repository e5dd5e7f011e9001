use Rattle.std.proofs.Common.{◌*◌, List, ℕ, length, refl, ap, ◌∙◌, arith}
use Rattle.compiler.specs.Filling.{rest}
use Rattle.compiler.proofs.OfferRows.{left_of, none_written, offers_written_more, all_offers_written}
use Rattle.compiler.proofs.layout.Layout.write_offers.Goals as goal

pub loop-offer-init : goal.loop-offer-init
loop-offer-init c = (none_written _ _ _ _ _, refl)

pub put-requires : goal.put-requires
put-requires c = omega (arith, ap (λ (xs : List ℕ). length xs) c.offer.ensures, left_of (3 * c.loop-offer.offer-index) (rest c.args.row.now) (rest c.loop-offer.row) c.loop-offer.invariant.0.rest, c.requires)

pub loop-offer-preserved : goal.loop-offer-preserved
loop-offer-preserved c = (offers_written_more _ _ _ _ _ _ _ _ c.loop-offer.invariant.0 _ _ _ c.loop-offer-test.true c.offer.ensures c.put.ensures.filled c.put.ensures.rest, c.put.ensures.same_words ∙ c.loop-offer.invariant.1)

pub returns : goal.returns
returns c = let all = all_offers_written _ _ _ _ _ _ _ _ c.loop-offer.invariant.0 (omega arith) in record { offers = all.0; rest = all.1; same_words = c.loop-offer.invariant.1 }
