use Rattle.pay_node.proofs.Rights.{handed_in_stays}
use Rattle.pay_node.proofs.laws.handing_in_stays_right.Goals as goal

pub returns : goal.returns
returns c = handed_in_stays
