use Rattle.std.proofs.Common.{◌^◌, arith}
use Rattle.machine.proofs.Turns.{join}
use Rattle.machine.proofs.registers.Registers.then_enter.Goals as goal

pub then-k-requires-clause-within : goal.then-k-requires-clause-within
then-k-requires-clause-within c =
    let few = c.then-j.ensures.few in let w = c.then-j.ensures.within (2 ^ 38) (omega arith) c.requires in omega arith

pub returns : goal.returns
returns c = join c.then-j.ensures c.then-k.ensures
