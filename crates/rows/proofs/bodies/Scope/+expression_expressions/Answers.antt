use Rattle.std.proofs.Common.{◌≡◌, sym, arith, rules}
use Rattle.std.proofs.lemmas.List.{take_rest}
use Rattle.rows.proofs.BodyReading.{too_deep, no_sign, not_allowed, no_parts, with_parts, none_left, no_first, no_rest, with_rest}
use Rattle.rows.proofs.bodies.Scope.+expression_expressions.Goals as goal

pub expression-returns-in_err-inner : goal.expression-returns-in_err-inner
expression-returns-in_err-inner t c =
    let none : c.args.depth ≡ 0 = search rules in
    rw c.from_residual.ensures (too_deep _ _ _ _ none)

pub expression-returns-in_err-sign : goal.expression-returns-in_err-sign
expression-returns-in_err-sign t c = rw c.from_residual-in_err-sign.ensures (no_sign _ _ _ _ c.in_err-sign.ensures)

pub expression-returns-then-not-allows : goal.expression-returns-then-not-allows
expression-returns-then-not-allows t c = not_allowed _ _ _ _ _ _ c.in_ok-sign.ensures (sym c.if-not-allows.ensures)

pub expression-returns-in_err-parts : goal.expression-returns-in_err-parts
expression-returns-in_err-parts t c = rw c.from_residual-in_err-parts.ensures (no_parts _ _ _ _ _ _ c.in_ok-sign.ensures _ _ _ (search rules) c.parts.ensures (take_rest c.args.row.now c.in_ok-sign.size) c.in_err-parts.ensures)

pub expression-returns : goal.expression-returns
expression-returns t c = with_parts _ _ _ _ _ _ c.in_ok-sign.ensures _ _ _ (search rules) c.parts.ensures (take_rest c.args.row.now c.in_ok-sign.size) _ (sym c.if-not-allows.ensures) c.in_ok-parts.ensures

pub expressions-returns-then-count-eq0 : goal.expressions-returns-then-count-eq0
expressions-returns-then-count-eq0 t c = none_left _ _ _ _ _ c.if-count-eq0.true

pub expressions-returns-in_err-first : goal.expressions-returns-in_err-first
expressions-returns-in_err-first t c = rw c.from_residual.ensures (no_first _ _ _ _ _ c.if-count-eq0.false c.in_err-first.ensures)

pub expressions-returns-in_err-rest : goal.expressions-returns-in_err-rest
expressions-returns-in_err-rest t c = rw c.from_residual-in_err-rest.ensures (no_rest _ _ _ _ _ _ _ _ (omega arith) (take_rest c.args.row.now c.in_ok-first.first) c.in_ok-first.ensures c.in_err-rest.ensures)

pub expressions-returns : goal.expressions-returns
expressions-returns t c = with_rest _ _ _ _ _ _ _ _ (omega arith) (take_rest c.args.row.now c.in_ok-first.first) c.in_ok-first.ensures _ c.in_ok-rest.ensures
