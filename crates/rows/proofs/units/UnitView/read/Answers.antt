use Rattle.std.proofs.Common.{refl, ◌∙◌}
use Rattle.rows.proofs.Decided.{passed_on}
use Rattle.rows.proofs.UnitReading.{arities_wrong, bodies_wrong, unit_shown, lent, kept_behind}
use Rattle.rows.proofs.units.UnitView.read.Goals as goal

pub returns-in_err-read_arities : goal.returns-in_err-read_arities
returns-in_err-read_arities c =
    let opened = rw c.in_ok-view.ensures.ok_part at c.open.ensures in
    let n = lent c.args.arities.now _ opened.cut.procs c.if-arities.false in
    let h = passed_on _ _ _ c.in_err-read_arities.ensures c.from_residual-in_err-read_arities.ensures.1 in
    rw h.0 (c.if-arities.false, arities_wrong _ _ opened.cut _ c.read_arities.new.arities n h.1, kept_behind _ _ opened.cut.procs c.if-arities.false _ (c.read_arities.auto.arities ∙ n))

pub returns-in_err-check_bodies : goal.returns-in_err-check_bodies
returns-in_err-check_bodies c =
    let opened = rw c.in_ok-view.ensures.ok_part at c.open.ensures in
    let n = lent c.args.arities.now _ opened.cut.procs c.if-arities.false in
    let m = c.read_arities.auto.arities ∙ n in
    let h = passed_on _ _ _ c.in_err-check_bodies.ensures c.from_residual-in_err-check_bodies.ensures.1 in
    rw h.0 (c.if-arities.false, bodies_wrong _ _ opened.cut _ _ _ n m c.in_ok-read_arities.ensures h.1, kept_behind _ _ opened.cut.procs c.if-arities.false _ m)

pub returns : goal.returns
returns c =
    let opened = rw c.in_ok-view.ensures.ok_part at c.open.ensures in
    let n = lent c.args.arities.now _ opened.cut.procs c.if-arities.false in
    let right = c.in_ok-check_bodies.ensures in
    unit_shown _ _ opened.cut _ _ _ n (c.read_arities.auto.arities ∙ n) c.in_ok-read_arities.ensures right.0 right.1 opened.wants opened.offers _ _ c.if-arities.false refl
