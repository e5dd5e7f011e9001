use Rattle.std.proofs.Common.{◌≡◌, take}
use Rattle.linker.specs.Tables.{names_of}
use Rattle.linker.proofs.directory.names_of.Given as goal

abbrev pub invariant-loop-one : goal.invariant-loop-one
invariant-loop-one l = l.names.items ≡ names_of (take l.one-index l.laid)
