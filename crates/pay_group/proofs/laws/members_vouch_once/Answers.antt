use Rattle.pay_group.proofs.Once.{vouch_once}
use Rattle.pay_group.proofs.laws.members_vouch_once.Goals as goal

pub returns : goal.returns
returns c = vouch_once
