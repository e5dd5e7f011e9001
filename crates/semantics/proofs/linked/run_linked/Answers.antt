use Rattle.std.proofs.Common.{Ok, Err, arith, rules}
use Rattle.std.proofs.lemmas.Result.{err_from_is_err_and}
use Rattle.semantics.proofs.RunLinked.{post_run, post_refusal}
use Rattle.semantics.proofs.Sizes.{words_small}
use Rattle.semantics.proofs.linked.run_linked.Goals as goal

pub returns-in_err-size : goal.returns-in_err-size
returns-in_err-size c =
    let p = err_from_is_err_and c.from_residual.result c.from_residual.ensures.1 in
    rw (p.1, p.2) (post_refusal _ c.link.new.image c.in_err-size.field-0.0 c.in_err-size.ensures)

pub overflow_cast-words : goal.overflow_cast-words
overflow_cast-words c = let h = words_small c.args.objects.now c.args.image.now c.link.new.image c.in_ok-size.field-0.size c.in_ok-size.field-0.words c.in_ok-size.ensures.says in search rules

pub returns-in_err-ran : goal.returns-in_err-ran
returns-in_err-ran c =
    let p = err_from_is_err_and c.from_residual-in_err-ran.result c.from_residual-in_err-ran.ensures.1 in
    rw (p.1, p.2) (post_run _ c.link.new.image c.go.new.out c.in_ok-size.field-0.size c.in_ok-size.field-0.words (Err c.in_err-ran.field-0.0) (omega arith) c.in_ok-size.ensures c.in_err-ran.ensures)

pub returns : goal.returns
returns c = post_run _ c.link.new.image c.go.new.out c.in_ok-size.field-0.size c.in_ok-size.field-0.words (Ok c.in_ok-ran.ran) (omega arith) c.in_ok-size.ensures c.in_ok-ran.ensures
