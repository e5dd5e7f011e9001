use Rattle.std.proofs.Common.{true, false, sym, ap, ◌∙◌}
use Rattle.std.proofs.lemmas.List.{nil_from_length}
use Rattle.linker.specs.Names.{repeats}
use Rattle.linker.proofs.Named.{repeats_more}
use Rattle.linker.proofs.names.twice.Goals as goal

pub returns-then-contains : goal.returns-then-contains
returns-then-contains c = sym (sym c.loop-name.invariant ∙ repeats_more c.in-Some.name.now c.loop-name.left.now c.in-Some.rest.now true c.in-Some.ensures.cases.0 c.if-contains.ensures.value)

pub loop-name-preserved : goal.loop-name-preserved
loop-name-preserved c = sym (repeats_more c.in-Some.name.now c.loop-name.left.now c.in-Some.rest.now false c.in-Some.ensures.cases.0 c.if-contains.ensures.value) ∙ c.loop-name.invariant

pub returns : goal.returns
returns c = sym (sym c.loop-name.invariant ∙ ap repeats (nil_from_length c.loop-name.left.now c.in_default.ensures.cases))
