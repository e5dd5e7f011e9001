use Rattle.std.proofs.Common.{sym, ◌∙◌, rules}
use Rattle.std.proofs.lemmas.Iterator.{YieldsList-from_slice}
use Rattle.std.proofs.lemmas.Iterator.Search.{all_from_yields_List}
use Rattle.std.proofs.lemmas.List.Folds.{list_all-map}
use Rattle.rows.specs.ObjectViews.{fit_in, fits_in, fit_inside}
use Rattle.rows.proofs.Fits.{each_inside}
use Rattle.rows.proofs.objects.fits_inside.Goals as goal
use borrow.Author.Tests.{tests}

pub returns : goal.returns
returns c =
    all_from_yields_List (λ words. fit_inside c.args.code c.args.wants (fit_in words)) _ _ _ c.all.ensures.ran (YieldsList-from_slice c.args.fits.now cc) (λ x b q k. search (rules, tests))
    ∙ (sym (list_all-map (fit_inside c.args.code c.args.wants) fit_in c.args.fits.now) ∙ each_inside c.args.code c.args.wants (fits_in c.args.fits.now))
