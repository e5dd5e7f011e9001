use Rattle.std.proofs.Common.{refl, ◌∙◌}
use Rattle.linker.proofs.Named.{told_twice}
use Rattle.linker.proofs.directory.Directory.new.Goals as goal

pub returns-then-twice : goal.returns-then-twice
returns-then-twice c = (refl, told_twice c.args.laid.now c.deref.result.now _ (c.deref.ensures.0 ∙ c.names_of.ensures) c.if-twice.ensures)

pub invariant_of-result : goal.invariant_of-result
invariant_of-result c = record { apart = told_twice c.args.laid.now c.deref.result.now _ (c.deref.ensures.0 ∙ c.names_of.ensures) c.if-twice.ensures }
