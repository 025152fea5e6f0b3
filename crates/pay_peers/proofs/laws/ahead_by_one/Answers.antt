use Rattle.pay_peers.proofs.ByOne.{by_one}
use Rattle.pay_peers.proofs.laws.ahead_by_one.Goals as goal

pub returns : goal.returns
returns c = by_one c.judgement_opens.ensures
