use Rattle.pay_group.proofs.ListVouching.{backed_listed}
use Rattle.pay_group.proofs.laws.backed_is_listed.Goals as goal

pub returns : goal.returns
returns c = backed_listed
