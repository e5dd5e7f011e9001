use Rattle.std.proofs.Common.{List}
use Rattle.rows.specs.Units.{Proc}
use Rattle.rows.specs.Bodies.{outlined}
use Rattle.rows.specs.UnitParts.{BodyRight}
use Rattle.rows.proofs.ProcReading.{Read}
use Rattle.rows.proofs.units.UnitView.check_bodies.Given as goal

abbrev pub invariant-loop : goal.invariant-loop
invariant-loop l = (ps : List Proc) × Read (BodyRight (outlined l.self.words l.self.wants.now l.arities)) l.self.procs.now l.left l.index ps
