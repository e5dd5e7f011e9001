use Rattle.std.proofs.Common.{[], sym, ap, ◌∙◌}
use Rattle.rows.specs.ObjectViews.{wants_in}
use Rattle.linker.specs.Linking.{place}
use Rattle.linker.specs.Directories.{laid_by}
use Rattle.linker.specs.Fitting.{FindSays}
use Rattle.linker.proofs.Keeping.{not_found, found_more, found_all}
use Rattle.linker.proofs.Refusals.{passed_on, refused_as}
use Rattle.linker.proofs.directory.Directory.find.Goals as goal

pub loop-words-preserved : goal.loop-words-preserved
loop-words-preserved g c = found_more (laid_by c.args.self.now) c.args.wants.now g.row.ROOM c.args.places.now.items c.loop-words.places.items c.loop-words.words-index [] c.loop-words-test.true c.loop-words.invariant c.in_ok-place.place (sym c.in_ok-place.ensures.ok_part ∙ c.place.ensures ∙ ap (place (laid_by c.args.self.now)) c.from.ensures) c.keep.new.places.items c.keep.ensures

pub returns-in_err-place : goal.returns-in_err-place
returns-in_err-place g c =
    let refused = refused_as c.place.result _ _ c.in_err-place.ensures.value in
    passed_on (FindSays (laid_by c.args.self.now) (wants_in c.args.wants.now) g.row.ROOM c.args.places.now.items c.loop-words.places.items) _ c.from_residual.result c.from_residual.ensures.1 (refused.0, not_found (laid_by c.args.self.now) c.args.wants.now g.row.ROOM c.args.places.now.items c.loop-words.places.items c.loop-words.words-index [] c.loop-words-test.true c.loop-words.invariant (refused.1 ∙ (c.place.ensures ∙ ap (place (laid_by c.args.self.now)) c.from.ensures)))

pub returns : goal.returns
returns g c = found_all (laid_by c.args.self.now) c.args.wants.now g.row.ROOM c.args.places.now.items c.loop-words.places.items c.loop-words.words-index c.loop-words-test.false c.loop-words.invariant
