use Rattle.linker.specs.Directories.{laid_by}
use Rattle.linker.proofs.Keeping.{FoundSoFar}
use Rattle.linker.proofs.directory.Directory.find.Given as goal

abbrev pub invariant-loop-words : goal.invariant-loop-words
invariant-loop-words g l = FoundSoFar (laid_by l.self) l.wants g.row.ROOM l.initial.places.items l.places.items l.words-index
