use Rattle.pay_audit.proofs.OneList.{one_list_is_no_fork}
use Rattle.pay_audit.proofs.laws.one_list_is_no_fork.Goals as goal

pub returns : goal.returns
returns c = one_list_is_no_fork
