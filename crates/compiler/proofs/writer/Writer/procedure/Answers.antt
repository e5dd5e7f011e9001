use Rattle.std.proofs.Common.{refl, ◌∙◌, ap, ◌+◌, arith, rules}
use Rattle.compiler.proofs.Lending.{one_as}
use Rattle.compiler.proofs.ProcedureParts.{no_right_body, frame_small, space_release, space_return, procedure_filled, expr_in, no_expr_in}
use Rattle.compiler.proofs.writer.Writer.procedure.Goals as goal

pub returns-in_err-height : goal.returns-in_err-height
returns-in_err-height c = rw c.from_residual.ensures (no_right_body _ _ _ _ refl (c.write-3.ensures.row ∙ (c.write-2.ensures.row ∙ c.write.ensures.row)) (no_expr_in _ _ _ _ c.names.ensures c.in_err-height.ensures))

pub overflow_add-frame-2 : goal.overflow_add-frame-2
overflow_add-frame-2 c =
    omega (arith, frame_small _ _ _ _ _ _ _ _ c.requires (search rules) refl (expr_in _ _ _ _ _ _ c.names.ensures c.in_ok-height.ensures) (one_as _ _ _ _ c.plain.ensures c.write.ensures) (one_as _ _ _ _ c.plain-2.ensures c.write-2.ensures) (one_as _ _ _ _ c.plain-3.ensures c.write-3.ensures), c.requires.words)

pub write-requires-4 : goal.write-requires-4
write-requires-4 c =
    space_release _ _ _ _ _ _ _ _ c.requires (search rules) refl (expr_in _ _ _ _ _ _ c.names.ensures c.in_ok-height.ensures) (one_as _ _ _ _ c.plain.ensures c.write.ensures) (one_as _ _ _ _ c.plain-2.ensures c.write-2.ensures) (one_as _ _ _ _ c.plain-3.ensures c.write-3.ensures)
    _ _ _ c.fill_in.ensures

pub write-requires-5 : goal.write-requires-5
write-requires-5 c =
    space_return _ _ _ _ _ _ _ _ c.requires (search rules) refl (expr_in _ _ _ _ _ _ c.names.ensures c.in_ok-height.ensures) (one_as _ _ _ _ c.plain.ensures c.write.ensures) (one_as _ _ _ _ c.plain-2.ensures c.write-2.ensures) (one_as _ _ _ _ c.plain-3.ensures c.write-3.ensures)
    _ _ _ c.fill_in.ensures _ _ _ (one_as _ _ _ _ c.plain-4.ensures c.write-4.ensures)

pub returns : goal.returns
returns c =
    procedure_filled _ _ _ _ _ _ _ _ _ _ _ _ _ c.requires (search rules) refl (expr_in _ _ _ _ _ _ c.names.ensures c.in_ok-height.ensures)
    (one_as _ _ _ _ c.plain.ensures c.write.ensures) (one_as _ _ _ _ c.plain-2.ensures c.write-2.ensures) (one_as _ _ _ _ c.plain-3.ensures c.write-3.ensures) (ap (λ n. n + 3) c.len-reserve.ensures) c.fill_in.ensures
    (one_as _ _ _ _ c.plain-4.ensures c.write-4.ensures) (one_as _ _ _ _ c.plain-5.ensures c.write-5.ensures) refl (search rules) refl
