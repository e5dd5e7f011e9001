use Rattle.std.proofs.Common.{[], ◌∷◌, ◌++◌, ◌∙◌, arith, rules}
use Rattle.std.proofs.lemmas.List.{take_all}
use Rattle.rows.specs.Bodies.{Any}
use Rattle.rows.specs.UnitParts.{FewArgs}
use Rattle.rows.proofs.Decided.{refused}
use Rattle.rows.proofs.ProcReading.{parted, body_read, nothing_left, wrong_args, wrong_body, arities_more, none_over, some_over}
use Rattle.rows.proofs.units.read_arities.Goals as goal

pub returns-in_err-args : goal.returns-in_err-args
returns-in_err-args c =
    let h = refused _ _ _ _ _ c.ok_or.ensures.value c.in_err-args.was c.from_residual.ensures.1 in
    let short = rw h.0 at c.split_first.ensures.cases in
    rw h.1 (λ ps k. nothing_left FewArgs FewArgs c.loop-arity.invariant.1 c.loop-arity-test.true k (omega (arith, short)))

pub returns-then-args-gt-MOST_ARGS : goal.returns-then-args-gt-MOST_ARGS
returns-then-args-gt-MOST_ARGS c ps k =
    let first = rw c.in_ok-args.ensures.ok_part at c.split_first.ensures.cases in
    let p = parted first.0 in
    wrong_args FewArgs FewArgs c.loop-arity.invariant.1 c.loop-arity-test.true k (λ q few is. omega (arith, p.0, c.if-args-gt-MOST_ARGS.true))

pub returns-in_err-size : goal.returns-in_err-size
returns-in_err-size c =
    let first = rw c.in_ok-args.ensures.ok_part at c.split_first.ensures.cases in
    let p = parted first.0 in
    let h = refused _ _ _ _ _ c.ok_or-in-loop-arity.ensures.value c.in_err-size.was c.from_residual-in_err-size.ensures.1 in
    let none = rw h.0 at c.skip.ensures in
    rw h.1 (λ ps k. wrong_body FewArgs FewArgs c.loop-arity.invariant.1 c.loop-arity-test.true k Any p.2 (rw p.1 none) (λ q is few. tt))

pub loop-arity-preserved : goal.loop-arity-preserved
loop-arity-preserved c =
    let first = rw c.in_ok-args.ensures.ok_part at c.split_first.ensures.cases in
    let body = rw c.in_ok-size.ensures.ok_part at c.skip.ensures in
    let p = body_read FewArgs Any _ _ c.in_ok-size.size c.loop-arity.invariant.1 first.0 body (λ e h. c.if-args-gt-MOST_ARGS.false) in
    (c.loop-arity.invariant.0 ++ p.0 ∷ [], p.2, arities_more c.loop-arity.invariant.0 p.0 c.loop-arity.arities c.loop-arity.arity-index _ c.loop-arity.invariant.2 p.1 (search rules))

pub returns : goal.returns
returns c = (c.loop-arity.invariant.0, none_over FewArgs c.loop-arity.invariant.1 (omega arith) (search rules), c.loop-arity.invariant.2 ∙ take_all _ c.loop-arity.arities (omega arith))

pub returns-then-not-is_empty : goal.returns-then-not-is_empty
returns-then-not-is_empty c ps k = some_over FewArgs c.loop-arity.invariant.1 (omega arith) ps (search rules) k
