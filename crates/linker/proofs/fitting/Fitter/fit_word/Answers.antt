use Rattle.std.proofs.Common.{sym}
use Rattle.std.proofs.lemmas.List.{set_past}
use Rattle.linker.proofs.fitting.Fitter.fit_word.Goals as goal

pub returns-else-at-code : goal.returns-else-at-code
returns-else-at-code c = sym (set_past c.args.code.now c.args.fit.at _ c.if-at-code.false)
