use Rattle.std.proofs.Common.{refl, arith}
use Rattle.compiler.proofs.Assembling.{code_first}
use Rattle.compiler.proofs.UnitParts.{procs_inside, no_unit, unit_written, object_short}
use Rattle.compiler.proofs.write_unit.Goals as goal

pub split_at_mut-code-requires : goal.split_at_mut-code-requires
split_at_mut-code-requires c = omega (arith, procs_inside _ _ c.requires.laid_out, c.requires.for_work)

pub procedures-requires : goal.procedures-requires
procedures-requires c = record {
  for_code = omega (arith, c.split_at_mut-code.ensures.front_len);
  for_fits = omega (arith, c.split_at_mut-code.ensures.back_len, procs_inside _ _ c.requires.laid_out, c.requires.for_work);
  words = omega (arith, c.split_at_mut-code.ensures.front_len, procs_inside _ _ c.requires.laid_out, c.requires.laid_out.opened.cut.short);
}

pub returns-in_err-procedures : goal.returns-in_err-procedures
returns-in_err-procedures c = rw c.from_residual.ensures (refl, λ s laid. no_unit s _ laid c.in_err-procedures.ensures)

pub write_object-requires : goal.write_object-requires
write_object-requires c =
    let short = object_short _ _ c.requires.laid_out _ _ (code_first _ _ _ _ _ refl refl c.in_ok-procedures.ensures) in
    record { space = rw (c.written.ensures, c.written-2.ensures) (omega (arith, short, c.requires.for_object)); words = rw (c.written.ensures, c.written-2.ensures) (omega (arith, short, c.requires.laid_out.opened.cut.short)) }

pub returns : goal.returns
returns c s laid = unit_written s _ laid _ _ (code_first _ _ _ _ _ refl refl c.in_ok-procedures.ensures) _ _ _ (rw (c.written.ensures, c.written-2.ensures) at c.write_object.ensures.writes)
