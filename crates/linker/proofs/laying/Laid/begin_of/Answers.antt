use Rattle.std.proofs.Common.{sym, rules}
use Rattle.linker.specs.Tables.{laid_of}
use Rattle.linker.proofs.Settling.{offer_below}
use Rattle.linker.proofs.laying.Laid.begin_of.Goals as goal

pub overflow_add-result : goal.overflow_add-result
overflow_add-result c =
    let h = offer_below (laid_of c.args.self.now) c.args.proc c.args.args c.in_ok-at.at c.args.self.now.settled (sym c.in_ok-at.ensures) in
    search rules
