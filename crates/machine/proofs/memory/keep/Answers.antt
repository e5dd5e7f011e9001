use Rattle.std.proofs.Common.{sym}
use Rattle.std.proofs.lemmas.List.{set_past}
use Rattle.machine.proofs.memory.keep.Goals as goal

pub returns-else-a-memory : goal.returns-else-a-memory
returns-else-a-memory c = sym (set_past _ _ _ c.if-a-memory.false)
