use Rattle.std.proofs.Common.{arith}
use Rattle.machine.proofs.Turns.{near, stay, turned}
use Rattle.machine.proofs.turn.turn.Goals as goal

pub then_operate-requires : goal.then_operate-requires
then_operate-requires c = let w = near c.requires.within c.push.ensures in omega arith

pub then_operate-requires-in-Arg : goal.then_operate-requires-in-Arg
then_operate-requires-in-Arg c = let w = near c.requires.within c.push_argument.ensures in omega arith

pub then_operate-requires-in-Load : goal.then_operate-requires-in-Load
then_operate-requires-in-Load c = let w = near c.requires.within c.load.ensures in omega arith

pub then_pop-requires : goal.then_pop-requires
then_pop-requires c = let w = near c.requires.within c.store.ensures in omega arith

pub then_return-requires : goal.then_return-requires
then_return-requires c = let w = near c.requires.within (c.release.ensures c.args.memory.now) in omega arith

pub then_enter-requires : goal.then_enter-requires
then_enter-requires c = near c.requires.within (c.count.ensures c.args.memory.now)

pub returns-in-Push : goal.returns-in-Push
returns-in-Push c = turned c.args.tape.now c.args.out.now c.requires.running c.requires.put c.in-Some.ensures c.in-Push.is c.push.ensures c.then_operate.ensures

pub returns-in-Arg : goal.returns-in-Arg
returns-in-Arg c = turned c.args.tape.now c.args.out.now c.requires.running c.requires.put c.in-Some.ensures c.in-Arg.is c.push_argument.ensures c.then_operate-in-Arg.ensures

pub returns-in-Load : goal.returns-in-Load
returns-in-Load c = turned c.args.tape.now c.args.out.now c.requires.running c.requires.put c.in-Some.ensures c.in-Load.is c.load.ensures c.then_operate-in-Load.ensures

pub returns-in-Store : goal.returns-in-Store
returns-in-Store c = turned c.args.tape.now c.args.out.now c.requires.running c.requires.put c.in-Some.ensures c.in-Store.is c.store.ensures c.then_pop.ensures

pub returns-in-Release : goal.returns-in-Release
returns-in-Release c = turned c.args.tape.now c.args.out.now c.requires.running c.requires.put c.in-Some.ensures c.in-Release.is (c.release.ensures c.args.memory.now) c.then_return.ensures

pub returns-in-Count : goal.returns-in-Count
returns-in-Count c = turned c.args.tape.now c.args.out.now c.requires.running c.requires.put c.in-Some.ensures c.in-Count.is (c.count.ensures c.args.memory.now) c.then_enter.ensures

pub returns-in-Halt : goal.returns-in-Halt
returns-in-Halt c =
    turned c.args.tape.now c.args.out.now c.requires.running c.requires.put c.in-Some.ensures c.in-Halt.is (c.halt.ensures c.args.memory.now) (stay c.args.code.now c.args.spare _ c.args.memory.now)

pub returns-in-Jump : goal.returns-in-Jump
returns-in-Jump c =
    turned c.args.tape.now c.args.out.now c.requires.running c.requires.put c.in-Some.ensures c.in-Jump.is (c.jump.ensures c.args.memory.now) (stay c.args.code.now c.args.spare _ c.args.memory.now)
