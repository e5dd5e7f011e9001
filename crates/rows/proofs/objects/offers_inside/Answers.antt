use Rattle.std.proofs.Common.{ltb, sym, ◌∙◌, rules}
use Rattle.std.proofs.lemmas.Iterator.{YieldsList-from_slice}
use Rattle.std.proofs.lemmas.Iterator.Search.{all_from_yields_List}
use Rattle.std.proofs.lemmas.List.Folds.{list_all-map}
use Rattle.rows.specs.ObjectViews.{offer_in}
use Rattle.rows.proofs.objects.offers_inside.Goals as goal
use borrow.Author.Tests.{tests}

pub returns : goal.returns
returns c = all_from_yields_List (λ words. ltb (offer_in words).at c.args.code) _ _ _ c.all.ensures.ran (YieldsList-from_slice c.args.offers.now cc) (λ x b q k. search (rules, tests)) ∙ sym (list_all-map (λ o. ltb o.at c.args.code) offer_in c.args.offers.now)
