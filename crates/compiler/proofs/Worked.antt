-- The worked objects compute, and their units are within the limits.
use Rattle.std.proofs.Common.{refl, lit≤}
use Rattle.rows.specs.UnitRows.{row_unit, UnitRow}
use Rattle.semantics.specs.Cases.{sums, asks}
use Rattle.compiler.specs.Worked.{WorkedObjects}
use Rattle.compiler.proofs.Correct.{compiles}

sums_row : UnitRow (row_unit sums) sums
sums_row = record { row = refl; short = lit≤ tt; words = lit≤ tt; wants = lit≤ tt; procs = lit≤ tt; want_args = tt; proc_sizes = tt; bodies = tt; offers = tt }

asks_row : UnitRow (row_unit asks) asks
asks_row = record { row = refl; short = lit≤ tt; words = lit≤ tt; wants = lit≤ tt; procs = lit≤ tt; want_args = tt; proc_sizes = tt; bodies = tt; offers = tt }

pub worked : WorkedObjects
worked = record { sums_compiled = refl; asks_compiled = refl; sums_related = compiles (row_unit sums) sums sums_row; asks_related = compiles (row_unit asks) asks asks_row }
