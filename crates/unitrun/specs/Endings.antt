-- What a run's last line is.
use Rattle.std.specs.Prelude.{ℕ, List, Ok, Err, Result}
use Rattle.machine.specs.declared.ending.Ran.{Ran}
use Rattle.machine.specs.declared.ending.NotRun.TheVariants.{OutFull, Small}
use Rattle.machine.specs.Texts.{status_text, not_run_text}
use Rattle.semantics.specs.declared.linked.RunError.{RunError}
use Rattle.semantics.specs.declared.linked.RunError.TheVariants.{Link, Run}
use Rattle.unitrun.specs.declared.ending.Ending.{Ending}
use Rattle.unitrun.specs.declared.ending.Ending.TheVariants as ending

-- a run ends as it stood, and so does one whose words did not fit; where there is none it is told why
abbrev pub ending_of : Result Ran RunError → Result Ending RunError
ending_of (Ok r) = Ok (ending.Ran r)
ending_of (Err (Run OutFull)) = Ok ending.OutFull
ending_of (Err (Run Small)) = Err (Run Small)
ending_of (Err (Link e)) = Err (Link e)

-- how many words are printed
abbrev pub put_of : Ending → ℕ
put_of (ending.Ran r) = r.put
put_of ending.OutFull = 0

-- and how it ended, in words
abbrev pub ending_text : Ending → List ℕ
ending_text (ending.Ran r) = status_text r.status
ending_text ending.OutFull = not_run_text OutFull
