use Rattle.std.proofs.Common.{[], ◌∷◌, ◌++◌, None, sym, ◌∙◌, subst, arith, rules}
use Rattle.rows.specs.UnitRows.{row_expr}
use Rattle.rows.specs.Bodies.{outlined, Right}
use Rattle.rows.specs.RowFronts.{FrontSays}
use Rattle.rows.proofs.Decided.{refused}
use Rattle.rows.proofs.ProcReading.{parted, body_read, nothing_left, wrong_body, right_at, none_over, some_over}
use Rattle.rows.proofs.units.UnitView.check_bodies.Goals as goal

pub returns-in_err-args : goal.returns-in_err-args
returns-in_err-args c =
    let h = refused _ _ _ _ _ c.ok_or.ensures.value c.in_err-args.was c.from_residual.ensures.1 in
    let short = rw h.0 at c.split_first.ensures.cases in
    rw h.1 (λ k. nothing_left _ _ c.loop.invariant.1 (search rules) k.1 (omega (arith, short)))

pub returns-in_err-size : goal.returns-in_err-size
returns-in_err-size c =
    let first = rw c.in_ok-args.ensures.ok_part at c.split_first.ensures.cases in
    let p = parted first.0 in
    let h = refused _ _ _ _ _ c.ok_or-in-loop.ensures.value c.in_err-size.was c.from_residual-in_err-size.ensures.1 in
    let none = rw h.0 at c.body.ensures in
    rw h.1 (λ k. wrong_body _ _ c.loop.invariant.1 (search rules) k.1 _ p.2 (subst (λ s. FrontSays row_expr (Right (outlined c.args.self.words c.args.self.wants.now c.args.arities.now) c.in_ok-args.args.now 256) s None) (sym p.1) none) (λ q is right. right_at _ _ q (is ∙ p.0) right))

pub loop-preserved : goal.loop-preserved
loop-preserved c =
    let first = rw c.in_ok-args.ensures.ok_part at c.split_first.ensures.cases in
    let body = rw c.in_ok-size.ensures.ok_part at c.body.ensures in
    let p = body_read _ _ _ _ c.in_ok-size.size c.loop.invariant.1 first.0 body (λ e h. h) in
    (c.loop.invariant.0 ++ p.0 ∷ [], p.2)

pub returns : goal.returns
returns c = (c.loop.invariant.0, none_over _ c.loop.invariant.1 (omega arith) (search rules))

pub returns-then-not-is_empty : goal.returns-then-not-is_empty
returns-then-not-is_empty c = λ k. some_over _ c.loop.invariant.1 (omega arith) k.0 (search rules) k.1
