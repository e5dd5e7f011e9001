use Rattle.std.proofs.Common.{refl, rules}
use Rattle.rows.proofs.ObjectLists.{read_is_said}
use Rattle.rows.proofs.objects.Objects.new.Goals as goal

pub returns : goal.returns
returns c = record { gives = λ os. read_is_said c.args.row.now os (search rules); all = refl; row = refl; short = search rules }
