use Rattle.pay_peers.proofs.Behind.{asks_each_once}
use Rattle.pay_peers.proofs.laws.asked_once.Goals as goal

pub returns : goal.returns
returns c = asks_each_once
