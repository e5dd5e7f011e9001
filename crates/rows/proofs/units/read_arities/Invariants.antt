use Rattle.std.proofs.Common.{◌≡◌, List, map, take}
use Rattle.rows.specs.Units.{Proc}
use Rattle.rows.specs.UnitParts.{FewArgs}
use Rattle.rows.proofs.ProcReading.{Read}
use Rattle.rows.proofs.units.read_arities.Given as goal

abbrev pub invariant-loop-arity : goal.invariant-loop-arity
invariant-loop-arity l = (ps : List Proc) × Read FewArgs l.procs l.left l.arity-index ps × (map (λ p. p.args) ps ≡ take l.arity-index l.arities)
