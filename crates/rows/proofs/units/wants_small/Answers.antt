use Rattle.std.proofs.Common.{leb, sym, ◌∙◌, rules}
use Rattle.std.proofs.lemmas.Iterator.{YieldsList-from_slice}
use Rattle.std.proofs.lemmas.Iterator.Search.{all_from_yields_List}
use Rattle.std.proofs.lemmas.List.Folds.{list_all-map}
use Rattle.rows.specs.ObjectViews.{want_in}
use Rattle.rows.proofs.units.wants_small.Goals as goal
use borrow.Author.Tests.{tests}

pub returns : goal.returns
returns c = all_from_yields_List (λ words. leb (want_in words).args 8) _ _ _ c.all.ensures.ran (YieldsList-from_slice c.args.wants.now cc) (λ x b q k. search (rules, tests)) ∙ sym (list_all-map (λ w. leb w.args 8) want_in c.args.wants.now)
