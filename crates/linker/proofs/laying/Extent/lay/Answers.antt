use Rattle.std.proofs.Common.{Ok, subst}
use Rattle.rows.specs.ObjectReading.{NextSays}
use Rattle.linker.proofs.SoFar.{laid_more, laid_all}
use Rattle.linker.proofs.laying.Extent.lay.Goals as goal

pub loop-object-preserved : goal.loop-object-preserved
loop-object-preserved c =
    let given = subst (λ o. NextSays c.loop-object.reader c.next.new.self (Ok o)) c.in-Some.is c.in_ok-object.ensures.says in
    laid_more c.in_ok-reader.reader c.loop-object.reader c.next.new.self c.loop-object.table c.loop-object.count _ c.loop-object.invariant given c.behind-places.result c.behind-places.ensures

pub returns : goal.returns
returns c =
    let end = subst (λ o. NextSays c.loop-object.reader c.next.new.self (Ok o)) c.in_default.is c.in_ok-object.ensures.says in
    laid_all c.args.row.now c.in_ok-reader.reader c.loop-object.reader c.loop-object.table c.loop-object.count c.loop-object.places.code_at c.loop-object.places.words_at c.loop-object.invariant c.in_ok-reader.ensures end.0
