use Rattle.pay_peers.proofs.Opening.{opens_so}
use Rattle.pay_peers.proofs.laws.opens_by_one.Goals as goal

pub returns : goal.returns
returns c = opens_so
