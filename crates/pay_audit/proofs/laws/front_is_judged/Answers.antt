use Rattle.pay_audit.proofs.Judging.{right_front}
use Rattle.pay_audit.proofs.laws.front_is_judged.Goals as goal

pub returns : goal.returns
returns c = right_front c.largest_is_computed.ensures c.largest_is_one.ensures
