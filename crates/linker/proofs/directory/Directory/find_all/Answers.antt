use Rattle.std.proofs.Common.{sym, ◌∙◌}
use Rattle.rows.proofs.Decided.{none_since}
use Rattle.linker.specs.Directories.{laid_by}
use Rattle.linker.specs.Fitting.{FindAllSays}
use Rattle.linker.proofs.Keeping.{kept_more, kept_all}
use Rattle.linker.proofs.Meeting.{not_met_here}
use Rattle.linker.proofs.Refusals.{passed_on}
use Rattle.linker.proofs.directory.Directory.find_all.Goals as goal

pub loop-one-preserved : goal.loop-one-preserved
loop-one-preserved g c = kept_more c.args.self.now.laid.now g.row.ROOM c.loop-one.places.items c.find.new.places.items c.loop-one.one-index c.one-item.result c.loop-one-test.true c.one-item.is c.loop-one.invariant c.in_ok-find.ensures

pub returns-in_err-find : goal.returns-in_err-find
returns-in_err-find g c = passed_on (FindAllSays (laid_by c.args.self.now) g.row.ROOM c.find.new.places.items) _ c.from_residual.result c.from_residual.ensures.1 (c.in_err-find.ensures.0, none_since _ (sym (sym c.loop-one.invariant.left ∙ not_met_here (laid_by c.args.self.now) c.args.self.now.laid.now c.loop-one.one-index c.one-item.result c.loop-one-test.true c.one-item.is c.in_err-find.ensures.1)))

pub returns : goal.returns
returns g c = kept_all c.args.self.now.laid.now g.row.ROOM c.loop-one.places.items c.loop-one.one-index c.loop-one-test.false c.loop-one.invariant
