use Rattle.std.proofs.Common.{◌≡◌, length}
use Rattle.linker.specs.Names.{repeats}
use Rattle.linker.proofs.names.twice.Given as goal

abbrev pub invariant-loop-name : goal.invariant-loop-name
invariant-loop-name l = repeats l.left ≡ repeats l.names

abbrev pub decreases-loop-name : goal.decreases-loop-name
decreases-loop-name l = length l.left
