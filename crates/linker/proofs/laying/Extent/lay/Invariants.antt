use Rattle.std.proofs.Common.{length}
use Rattle.linker.proofs.SoFar.{SoFar}
use Rattle.linker.proofs.laying.Extent.lay.Given as goal

abbrev pub invariant-loop-object : goal.invariant-loop-object
invariant-loop-object l = SoFar l.initial.reader l.reader l.table l.count l.places.code_at l.places.words_at

abbrev pub decreases-loop-object : goal.decreases-loop-object
decreases-loop-object l = length l.reader.rest.now
