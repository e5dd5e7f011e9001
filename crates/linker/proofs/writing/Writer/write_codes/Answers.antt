use Rattle.std.proofs.Common.{arith}
use Rattle.linker.specs.Directories.{laid_by}
use Rattle.linker.proofs.Keeping.{known_here, known_behind}
use Rattle.linker.proofs.Meeting.{met_at}
use Rattle.linker.proofs.Written.{written_more, written_all}
use Rattle.linker.proofs.writing.Writer.write_codes.Goals as goal

pub invariant_of-fitter : goal.invariant_of-fitter
invariant_of-fitter c =
    let d = c.args.self.now.directory.now in
    let met = met_at (laid_by d) d.laid.now c.loop-own.own-index c.own-item.result c.loop-own-test.true c.own-item.is c.args.self.now.met in
    record {
      met = met;
      right = known_here d.laid.now c.loop-own.known.now c.loop-own.own-index c.own-item.result c.loop-own-test.true c.own-item.is met c.loop-own.invariant.1 c.min.result c.min.ensures c.split_at.result.0.now c.split_at.ensures.front;
    }

pub loop-own-preserved : goal.loop-own-preserved
loop-own-preserved c =
    let d = c.args.self.now.directory.now in
    let met = met_at (laid_by d) d.laid.now c.loop-own.own-index c.own-item.result c.loop-own-test.true c.own-item.is c.args.self.now.met in
    (written_more d.laid.now c.args.words.now c.loop-own.words c.write.new.code c.loop-own.own-index c.loop-own.at c.own-item.result c.loop-own-test.true c.own-item.is (omega arith) c.loop-own.invariant.0 c.write.ensures, known_behind d.laid.now c.loop-own.known.now c.loop-own.own-index c.own-item.result c.loop-own-test.true c.own-item.is met c.loop-own.invariant.1 c.min.result c.min.ensures c.split_at.result.1.now c.split_at.ensures.back)

pub returns : goal.returns
returns c = written_all c.args.self.now.directory.now.laid.now c.args.words.now c.loop-own.words c.loop-own.own-index c.loop-own.at c.loop-own-test.false c.loop-own.invariant.0
