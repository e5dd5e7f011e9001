use Rattle.linker.proofs.Keeping.{KeptSoFar}
use Rattle.linker.proofs.directory.Directory.find_all.Given as goal

abbrev pub invariant-loop-one : goal.invariant-loop-one
invariant-loop-one g l = KeptSoFar l.self.laid.now g.row.ROOM l.places.items l.one-index
