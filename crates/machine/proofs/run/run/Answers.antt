use Rattle.std.proofs.Common.{arith}
use Rattle.machine.proofs.Runs.{begins, goes_on, ends_halted, ends_spent, ends_full}
use Rattle.machine.proofs.run.run.Goals as goal

pub loop-left-init : goal.loop-left-init
loop-left-init c = begins c.args.code.now c.args.tape.now c.args.steps c.args.start c.args.memory.now c.args.out.now c.requires.put c.requires.within

pub returns-in_default : goal.returns-in_default
returns-in_default c = ends_halted c.loop-left.auto.out c.loop-left.invariant c.in_default.not-Running

pub turn-requires : goal.turn-requires
turn-requires c = record { running = c.in-Running.is; within = let w = c.loop-left.invariant.within in let f = c.ranges.steps.fits in omega arith; put = c.loop-left.invariant.put }

pub returns-in_err-next : goal.returns-in_err-next
returns-in_err-next c = rw c.from_residual.ensures (ends_full c.loop-left.auto.out c.loop-left-test.true c.loop-left.invariant c.in_err-next.ensures)

pub loop-left-preserved : goal.loop-left-preserved
loop-left-preserved c = goes_on c.loop-left-test.true c.turn.auto.out c.loop-left.invariant c.in_ok-next.ensures

pub returns : goal.returns
returns c = ends_spent c.loop-left.auto.out c.loop-left.invariant c.loop-left-test.false
