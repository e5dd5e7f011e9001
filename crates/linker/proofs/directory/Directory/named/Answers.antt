use Rattle.std.proofs.Common.{sym}
use Rattle.linker.proofs.Named.{only_named}
use Rattle.linker.proofs.directory.Directory.named.Goals as goal

pub returns-in-loop-step : goal.returns-in-loop-step
returns-in-loop-step c =
    let found = c.in-Some.ensures.lookup in
    sym (only_named c.args.name c.args.self.now.laid.now _ c.in-Some.likely.now c.args.self.now.apart found.3.0 found.1 c.if-likely-name.true)
