use Rattle.std.proofs.Common.{◌<◌, length, slice_index_or, refl, ap, arith, rules}
use Rattle.std.proofs.lemmas.List.{take_rest, length-drop}
use Rattle.rows.proofs.UnitCuts.{too_few, cut_is}
use Rattle.rows.proofs.units.UnitView.cut.Goals as goal

pub returns-in_err-wants : goal.returns-in_err-wants
returns-in_err-wants c =
    let short = rw (take_rest c.args.row.now 5) at c.in_err-wants.ensures in
    rw c.from_residual.ensures (too_few c.args.row.now (omega (arith, short)))

pub returns-in_err-procs_size : goal.returns-in_err-procs_size
returns-in_err-procs_size c =
    let long = rw (take_rest c.args.row.now 5) at c.in_ok-wants.ensures.rest in
    let few : length c.in_ok-wants.rest.now < slice_index_or c.args.row.now 4 0 = search rules in
    rw c.from_residual-in_err-procs_size.ensures (too_few c.args.row.now (omega (arith, few, length-drop 5 c.args.row.now, simp length-drop at (ap length long))))

pub returns : goal.returns
returns c = cut_is _ c.args.row.now _ c.in_ok-wants.rest.now (take_rest c.args.row.now 5) (search rules) refl refl refl (record {
  enough = c.in_ok-wants.ensures.inside;
  wants_are = c.in_ok-wants.ensures.threes;
  wants_cut = c.in_ok-wants.ensures.rest;
  inside = search rules;
  procs_is = search rules;
  offers_is = search rules;
}) (search rules) (search rules) (search rules) (search rules)
