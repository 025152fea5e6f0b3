use Rattle.pay_peers.proofs.AsksAll.{asks_all}
use Rattle.pay_peers.proofs.laws.asks_for_all.Goals as goal

pub returns : goal.returns
returns c = asks_all
