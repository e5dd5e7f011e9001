use Rattle.machine.proofs.Ends.{one_out}
use Rattle.machine.proofs.registers.Registers.put_out.Goals as goal

pub returns : goal.returns
returns c = rw c.next.ensures (one_out c.args.self c.args.memory.now c.args.out.now c.top.result c.requires.ready.running c.if-put-out.false c.top.ensures)
