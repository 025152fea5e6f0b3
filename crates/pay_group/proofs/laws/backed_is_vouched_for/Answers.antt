use Rattle.pay_group.proofs.ListVouching.{vouched_for}
use Rattle.pay_group.proofs.laws.backed_is_vouched_for.Goals as goal

pub returns : goal.returns
returns c = vouched_for
