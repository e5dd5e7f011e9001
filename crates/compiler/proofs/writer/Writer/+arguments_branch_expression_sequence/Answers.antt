use Rattle.std.proofs.Common.{◌+◌, ◌-◌, length, sym, refl, ap, ◌∙◌, arith, length-set}
use Rattle.std.proofs.lemmas.List.{take_rest}
use Rattle.rows.proofs.BodyReading.{too_deep, no_sign, not_allowed}
use Rattle.rows.specs.Signs.{part_count}
use Rattle.compiler.specs.Writing.{instruction_of, State, state}
use Rattle.compiler.proofs.CodeParts.{operation_simple, keep_simple, out_simple, call_simple, no_parts}
use Rattle.compiler.proofs.Lending.{one_at, one_as}
use Rattle.compiler.proofs.WrittenParts.{none_first, none_behind, several_none, several_more, several_small, none_next, then_own, space_one, sequence_written, branch_filled, simple_arm, sequence_arm, branch_arm}
use Rattle.compiler.proofs.writer.Writer.+arguments_branch_expression_sequence.Goals as goal

pub expression-returns-then-depth-eq0 : goal.expression-returns-then-depth-eq0
expression-returns-then-depth-eq0 t c = too_deep _ _ _ _ c.if-depth-eq0.true

pub expression-returns-in_err-sign : goal.expression-returns-in_err-sign
expression-returns-in_err-sign t c = rw c.from_residual.ensures (no_sign _ _ _ _ c.in_err-sign.ensures)

pub expression-returns-then-not-allows : goal.expression-returns-then-not-allows
expression-returns-then-not-allows t c = not_allowed _ _ _ _ _ _ c.in_ok-sign.ensures (sym c.if-not-allows.ensures)

pub expression-returns-in-If : goal.expression-returns-in-If
expression-returns-in-If t c =
    branch_arm c.args.names.now c.args.depth (c.args.depth - 1) c.in_ok-sign.size c.in_ok-sign.sign (state c.args.self.now) (state c.branch-self.new.self) _ c.in_ok-sign.ensures (omega arith) (sym c.if-not-allows.ensures)
    (take_rest c.args.self.now.row.now c.in_ok-sign.size) c.branch-self.result c.in-If.is c.branch-self.ensures

pub expression-returns-in-Then : goal.expression-returns-in-Then
expression-returns-in-Then t c =
    sequence_arm c.args.names.now c.args.depth (c.args.depth - 1) c.in_ok-sign.size c.in_ok-sign.sign (state c.args.self.now) (state c.sequence.new.self) _ c.in_ok-sign.ensures (omega arith) (sym c.if-not-allows.ensures)
    (take_rest c.args.self.now.row.now c.in_ok-sign.size) c.sequence.result c.in-Then.is c.sequence.ensures

pub expression-returns-in-Operation : goal.expression-returns-in-Operation
expression-returns-in-Operation t c =
    simple_arm c.args.names.now c.args.depth (c.args.depth - 1) c.in_ok-sign.size c.in_ok-sign.sign (state c.args.self.now) (state c.arguments.new.self) _ c.in_ok-sign.ensures (omega arith) (sym c.if-not-allows.ensures)
    (take_rest c.args.self.now.row.now c.in_ok-sign.size) 2 (instruction_of c.instruction-own.result) c.arguments.result (operation_simple _ c.in-Operation.is) (sym (ap part_count c.in-Operation.is)) c.instruction-own.ensures c.arguments.ensures

pub expression-returns-in-Keep : goal.expression-returns-in-Keep
expression-returns-in-Keep t c =
    simple_arm c.args.names.now c.args.depth (c.args.depth - 1) c.in_ok-sign.size c.in_ok-sign.sign (state c.args.self.now) (state c.arguments-in-Keep.new.self) _ c.in_ok-sign.ensures (omega arith) (sym c.if-not-allows.ensures)
    (take_rest c.args.self.now.row.now c.in_ok-sign.size) 1 (instruction_of c.instruction-own.result) c.arguments-in-Keep.result (keep_simple _ c.in-Keep.is) (sym (ap part_count c.in-Keep.is)) c.instruction-own.ensures c.arguments-in-Keep.ensures

pub expression-returns-in-Out : goal.expression-returns-in-Out
expression-returns-in-Out t c =
    simple_arm c.args.names.now c.args.depth (c.args.depth - 1) c.in_ok-sign.size c.in_ok-sign.sign (state c.args.self.now) (state c.arguments-in-Out.new.self) _ c.in_ok-sign.ensures (omega arith) (sym c.if-not-allows.ensures)
    (take_rest c.args.self.now.row.now c.in_ok-sign.size) 1 (instruction_of c.instruction-own.result) c.arguments-in-Out.result (out_simple _ c.in-Out.is) (sym (ap part_count c.in-Out.is)) c.instruction-own.ensures c.arguments-in-Out.ensures

pub expression-returns-in-Call : goal.expression-returns-in-Call
expression-returns-in-Call t c =
    simple_arm c.args.names.now c.args.depth (c.args.depth - 1) c.in_ok-sign.size c.in_ok-sign.sign (state c.args.self.now) (state c.arguments-in-Call.new.self) _ c.in_ok-sign.ensures (omega arith) (sym c.if-not-allows.ensures)
    (take_rest c.args.self.now.row.now c.in_ok-sign.size) c.in-Call.count (instruction_of c.instruction-own.result) c.arguments-in-Call.result (call_simple _ c.in-Call.is) (sym (ap part_count c.in-Call.is)) c.instruction-own.ensures c.arguments-in-Call.ensures

pub expression-returns-in_default : goal.expression-returns-in_default
expression-returns-in_default t c =
    simple_arm c.args.names.now c.args.depth (c.args.depth - 1) c.in_ok-sign.size c.in_ok-sign.sign (state c.args.self.now) (state c.arguments-in_default.new.self) _ c.in_ok-sign.ensures (omega arith) (sym c.if-not-allows.ensures)
    (take_rest c.args.self.now.row.now c.in_ok-sign.size) 0 (instruction_of c.instruction-own.result) c.arguments-in_default.result (record { no_branch = c.in_default.not-If; no_sequence = c.in_default.not-Then })
    (no_parts _ c.in_default.not-Operation c.in_default.not-If c.in_default.not-Keep c.in_default.not-Then c.in_default.not-Out c.in_default.not-Call) c.instruction-own.ensures c.arguments-in_default.ensures

pub arguments-loop-before-init : goal.arguments-loop-before-init
arguments-loop-before-init t c = several_none _ _ _

pub arguments-returns-in_err-expression : goal.arguments-returns-in_err-expression
arguments-returns-in_err-expression t c = rw c.from_residual.ensures (none_next _ _ _ _ _ _ c.loop-before.invariant _ c.loop-before-test.true c.in_err-expression.ensures)

pub arguments-overflow_add-branch : goal.arguments-overflow_add-branch
arguments-overflow_add-branch t c = omega (arith, several_small _ _ _ _ _ _ c.loop-before.invariant _ _ c.in_ok-expression.ensures, c.requires.for_code, c.requires.words)

pub arguments-loop-before-preserved : goal.arguments-loop-before-preserved
arguments-loop-before-preserved t c = several_more _ _ _ _ _ _ c.loop-before.invariant _ _ _ c.in_ok-expression.ensures c.max-height.ensures

pub arguments-write-requires : goal.arguments-write-requires
arguments-write-requires t c = space_one 0 0 _ _ c.requires c.loop-before.invariant.gone

pub arguments-returns : goal.arguments-returns
arguments-returns t c = then_own _ _ _ _ _ _ c.loop-before.invariant _ _ _ _ (omega arith) c.write.ensures

pub sequence-returns-in_err-first : goal.sequence-returns-in_err-first
sequence-returns-in_err-first t c = rw c.from_residual.ensures (none_first c.args.names.now _ 2 1 _ refl c.in_err-first.ensures)

pub sequence-returns-in_err-second : goal.sequence-returns-in_err-second
sequence-returns-in_err-second t c = rw c.from_residual-in_err-second.ensures (none_behind _ _ 2 1 _ _ _ _ refl c.in_ok-first.ensures c.write.ensures.row (none_first c.args.names.now _ 1 0 _ refl c.in_err-second.ensures))

pub sequence-returns : goal.sequence-returns
sequence-returns t c = sequence_written _ _ _ _ _ _ _ _ _ c.in_ok-first.ensures (one_as _ _ _ _ c.plain.ensures c.write.ensures) c.in_ok-second.ensures c.max.ensures

pub branch-returns-in_err-test : goal.branch-returns-in_err-test
branch-returns-in_err-test t c = rw c.from_residual.ensures (none_first c.args.names.now _ 3 2 _ refl c.in_err-test.ensures)

pub branch-returns-in_err-first : goal.branch-returns-in_err-first
branch-returns-in_err-first t c = rw c.from_residual-in_err-first.ensures (none_behind _ _ 3 2 _ _ _ _ refl c.in_ok-test.ensures c.write.ensures.row (none_first c.args.names.now _ 2 1 _ refl c.in_err-first.ensures))

pub branch-fill_in-requires : goal.branch-fill_in-requires
branch-fill_in-requires t c = omega (arith, c.len-to_second.ensures, one_at _ _ _ _ c.write.ensures, c.in_ok-first.ensures.gone.grows, one_at _ _ _ _ c.write-2.ensures)

-- behind the second jump, which is written, the row is still that behind the first way
pub branch-returns-in_err-second : goal.branch-returns-in_err-second
branch-returns-in_err-second t c =
    rw c.from_residual-in_err-second.ensures
    (none_behind _ _ 3 2 _ _ _ _ refl c.in_ok-test.ensures c.write.ensures.row
    (none_behind _ _ 2 1 _ _ _ _ refl c.in_ok-first.ensures (ap (λ (s : State). s.row) c.fill_in.ensures ∙ c.write-2.ensures.row) (none_first c.args.names.now _ 1 0 _ refl c.in_err-second.ensures)))

pub branch-fill_in-requires-2 : goal.branch-fill_in-requires-2
branch-fill_in-requires-2 t c =
    omega (arith, c.len-to_end.ensures, one_at _ _ _ _ c.write-2.ensures, simp length-set at (ap (λ (s : State). length s.code) c.fill_in.ensures), c.in_ok-second.ensures.gone.grows)

pub branch-returns : goal.branch-returns
branch-returns t c =
    branch_filled _ _ _ _ _ _ _ _ _ _ _ _ _ _ _ _ _ _ _ c.in_ok-test.ensures (ap (λ n. n + 1) c.len-to_second.ensures) (one_as _ _ _ _ c.jump.ensures c.write.ensures)
    c.in_ok-first.ensures (ap (λ n. n + 1) c.len-to_end.ensures) (one_as _ _ _ _ c.jump-2.ensures c.write-2.ensures) c.len-second_way.ensures c.fill_in.ensures
    c.in_ok-second.ensures c.len-end.ensures c.fill_in-2.ensures c.max-2.ensures c.max.ensures
