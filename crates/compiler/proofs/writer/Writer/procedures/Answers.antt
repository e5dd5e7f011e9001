use Rattle.std.proofs.Common.{arith}
use Rattle.compiler.specs.Writing.{state}
use Rattle.compiler.proofs.ProcedureParts.{space_kept}
use Rattle.compiler.proofs.Assembling.{none_assembled, one_assembled, wrong_proc, all_assembled}
use Rattle.compiler.proofs.writer.Writer.procedures.Goals as goal

pub loop-number-init : goal.loop-number-init
loop-number-init c = none_assembled _ _ _

pub procedure-requires : goal.procedure-requires
procedure-requires c = space_kept _ _ c.requires c.loop-number.invariant.gone

pub returns-in_err-procedure : goal.returns-in_err-procedure
returns-in_err-procedure c = rw c.from_residual.ensures (wrong_proc _ _ _ _ _ (state c.procedure.new.self) c.loop-number.invariant _ (state c.procedure.new.self) c.loop-number-test.true c.in_err-procedure.ensures)

pub loop-number-preserved : goal.loop-number-preserved
loop-number-preserved c = one_assembled _ _ _ _ _ _ c.loop-number.invariant c.in_ok-procedure.ensures

pub returns : goal.returns
returns c = rw c.then_some.ensures (all_assembled _ _ _ c.args.layout.now.view.count _ _ c.is_empty.result c.loop-number.invariant (omega arith) c.is_empty.ensures)
