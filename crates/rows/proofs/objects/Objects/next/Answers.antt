use Rattle.std.proofs.Common.{sym, ap, ◌∙◌, rules}
use Rattle.std.specs.Result.{result_ok}
use Rattle.rows.specs.ObjectReading.{said}
use Rattle.rows.proofs.Reader.{given_next}
use Rattle.rows.proofs.objects.Objects.next.Goals as goal

pub returns-clause-says : goal.returns-clause-says
returns-clause-says c = given_next c.args.self.now c.in_ok-view.view c.in_ok-view.rest (sym (ap said (c.ok_or.ensures.ok_part ∙ ap result_ok c.in_ok-view.was)) ∙ c.first.ensures) (sym c.if-not-is_sound.ensures) (search rules)
