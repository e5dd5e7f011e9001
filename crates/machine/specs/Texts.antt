-- The words in which endings and refusals are told.
use Rattle.std.specs.Prelude.{ℕ, List, ◌++◌, codes, decimal}
use Rattle.machine.specs.declared.ending.Status.{Status}
use Rattle.machine.specs.declared.ending.Status.TheVariants.{Running, Done, NoCalls, NoRoom, Wild}
use Rattle.machine.specs.declared.ending.NotRun.{NotRun}
use Rattle.machine.specs.declared.ending.NotRun.TheVariants.{OutFull, Small}
use Rattle.machine.specs.declared.opcode.UnknownOpcode.{UnknownOpcode}

abbrev pub status_text : Status → List ℕ
status_text Running = codes "more"
status_text Done = codes "done"
status_text NoCalls = codes "no calls"
status_text NoRoom = codes "no room"
status_text Wild = codes "wild"

abbrev pub not_run_text : NotRun → List ℕ
not_run_text OutFull = codes "out full"
not_run_text Small = codes "small"

abbrev pub unknown_text : UnknownOpcode → List ℕ
unknown_text e = codes "no opcode has number " ++ decimal e.0
