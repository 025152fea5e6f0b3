use Rattle.pay_link.proofs.Judged.{sealed_opens_law}
use Rattle.pay_link.proofs.laws.sealed_opens.Goals as goal

pub returns : goal.returns
returns c = sealed_opens_law
