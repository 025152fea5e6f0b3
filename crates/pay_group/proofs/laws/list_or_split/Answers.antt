use Rattle.pay_group.proofs.ListVouching.{exists, not_both, one_list}
use Rattle.pay_group.proofs.laws.list_or_split.Goals as goal

pub returns : goal.returns
returns c = record { exists = exists; one = one_list; not_both = not_both }
