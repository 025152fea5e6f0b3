use Rattle.pay_link.proofs.Judged.{opened_law}
use Rattle.pay_link.proofs.laws.judgement_opens.Goals as goal

pub returns : goal.returns
returns c = opened_law
