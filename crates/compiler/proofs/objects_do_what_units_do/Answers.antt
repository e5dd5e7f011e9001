use Rattle.compiler.proofs.Simulation.{simulates_expressions}
use Rattle.compiler.proofs.Correct.{compiles}
use Rattle.compiler.proofs.Space.{fits_space}
use Rattle.compiler.proofs.Together.{compiled_runs}
use Rattle.compiler.proofs.objects_do_what_units_do.Goals as goal

pub returns : goal.returns
returns c = record { expressions = simulates_expressions; objects = compiles; space = fits_space; together = compiled_runs }
