use Rattle.std.proofs.Common.{drop}
use Rattle.linker.specs.Directories.{laid_by}
use Rattle.linker.specs.Tables.{laid_in}
use Rattle.linker.specs.Fitting.{AllKnown}
use Rattle.linker.proofs.Written.{WrittenSoFar}
use Rattle.linker.proofs.writing.Writer.write_codes.Given as goal

abbrev pub invariant-loop-own : goal.invariant-loop-own
invariant-loop-own l = WrittenSoFar l.directory.laid.now l.initial.words l.words l.own-index l.at × AllKnown (laid_by l.directory) (laid_in (drop l.own-index l.directory.laid.now)) l.known
