use Rattle.rows.proofs.ObjectLists.{one_list}
use Rattle.rows.proofs.objects.one_list.Goals as goal

pub returns : goal.returns
returns c = one_list
