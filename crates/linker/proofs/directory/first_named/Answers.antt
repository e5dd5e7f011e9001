use Rattle.std.proofs.Common.{eqb, rules}
use Rattle.std.proofs.lemmas.Iterator.{YieldsList-from_slice}
use Rattle.std.proofs.lemmas.Iterator.Search.{find_from_yields_List}
use Rattle.linker.proofs.Named.{named_found}
use Rattle.linker.proofs.directory.first_named.Goals as goal
use borrow.Author.Tests.{tests}

pub returns : goal.returns
returns c = named_found c.args.name c.args.laid.now c.find.result (find_from_yields_List (λ x. eqb c.args.name x.object.name) _ _ _ c.find.ensures.ran (YieldsList-from_slice c.args.laid.now cc) (λ x b q k. search (rules, tests)))
