use Rattle.std.proofs.Common.{rules, ◌≤◌, refl, subst, arith}
use Rattle.compiler.proofs.Extents.{extent_told, operation_small}
use Rattle.compiler.proofs.measure.sign_extent.Goals as goal
use Rattle.compiler.proofs.measure.sign_extent.Goals.{else-number-eq-OPERATION-via-then-number-eq-OPERATION+else-is_err, else-number-eq-OPERATION-via-else-number-eq-OPERATION}

pub returns-then-number-eq-CALL : goal.returns-then-number-eq-CALL
returns-then-number-eq-CALL c = extent_told c.args.row.now c.word_at-number.result _ (search rules) refl c.in_ok-sign.field-0.now _ (search rules) (search rules)
    (elim c.else-number-eq-OPERATION.branch [ else-number-eq-OPERATION-via-then-number-eq-OPERATION+else-is_err w ↦ λ e. subst (λ n. n ≤ 5) w.word_at.ensures (operation_small _ _ w.try_from.ensures (search rules)) | else-number-eq-OPERATION-via-else-number-eq-OPERATION w ↦ λ e. absurd (w.if-number-eq-OPERATION.false e) ]) (omega arith) (search rules)

pub returns-else-number-eq-CALL : goal.returns-else-number-eq-CALL
returns-else-number-eq-CALL c = extent_told c.args.row.now c.word_at-number.result _ (search rules) refl c.in_ok-sign.field-0.now _ (search rules) (search rules)
    (elim c.else-number-eq-OPERATION.branch [ else-number-eq-OPERATION-via-then-number-eq-OPERATION+else-is_err w ↦ λ e. subst (λ n. n ≤ 5) w.word_at.ensures (operation_small _ _ w.try_from.ensures (search rules)) | else-number-eq-OPERATION-via-else-number-eq-OPERATION w ↦ λ e. absurd (w.if-number-eq-OPERATION.false e) ]) (search rules) (search rules)
