use Rattle.std.proofs.Common.{sym, ap, ◌∙◌, rules}
use Rattle.rows.specs.ObjectReading.{said}
use Rattle.rows.proofs.Fronts.{too_short, front_none}
use Rattle.rows.proofs.objects.ObjectView.first.Goals as goal

pub returns-in_err-fits : goal.returns-in_err-fits
returns-in_err-fits c =
    let wants = c.in_ok-wants.ensures in
    let offers = c.in_ok-offers.ensures in
    let code = c.in_ok-code.ensures.cases in
    ap said c.from_residual-in_err-fits.ensures ∙ sym (front_none c.args.row.now (search rules) (too_short _ _ _ _ _ _ _ _ wants.inside wants.rest offers.inside offers.rest code.0 code.2 c.in_err-fits.ensures))
