-- What a refusal of `run_linked` says: what the linker's or the machine's says.
use Rattle.std.specs.Prelude.{ℕ, List}
use Rattle.linker.specs.Texts.{refusal_text}
use Rattle.machine.specs.Texts.{not_run_text}
use Rattle.semantics.specs.declared.linked.RunError.{RunError}
use Rattle.semantics.specs.declared.linked.RunError.TheVariants.{Link, Run}

abbrev pub run_error_text : RunError → List ℕ
run_error_text (Link e) = refusal_text e
run_error_text (Run e) = not_run_text e
