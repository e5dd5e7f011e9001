use Rattle.std.proofs.Common.{refl, arith}
use Rattle.machine.proofs.Turns.{operand_is, one_on}
use Rattle.machine.proofs.registers.Registers.then.Goals as goal

pub returns-in-Some : goal.returns-in-Some
returns-in-Some g c =
    let does = c.requires.does c.args.self c.in-Some.n _ (record { running = c.in-Running.is; within = c.requires.within }) in
    one_on c.in-Running.is (omega arith) (operand_is c.args.code.now c.args.self.pc c.in-Some.n c.args.opcode c.in-Some.ensures) refl (does.1 c.method.result _ c.method.ensures)
