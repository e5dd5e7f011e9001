use Rattle.std.proofs.Common.{sym, ap, is_some, ◌∙◌}
use Rattle.linker.proofs.Joining.{joined}
use Rattle.linker.proofs.Keeping.{stands_first}
use Rattle.linker.proofs.writing.join_by.Goals as goal

pub invariant_of-writer : goal.invariant_of-writer
invariant_of-writer g c = record {
  met = ap is_some c.in_ok-find_all.ensures.met;
  right = stands_first g.row.KEPT c.as_slice.result.now c.find_all.new.places.items _ c.as_slice.ensures.value c.as_slice.ensures.fits c.in_ok-find_all.ensures.kept;
}

pub returns : goal.returns
returns g c = joined c.args.directory.now.laid.now c.in_ok-entry.entry c.args.image.now c.write.new.image (sym c.in_ok-entry.ensures.ok_part ∙ c.entry.ensures) c.in_ok-find_all.ensures.met c.write.ensures
