use Rattle.pay_log.proofs.Logs.{acknowledged}
use Rattle.pay_log.proofs.laws.acknowledged_are_read.Goals as goal

pub returns : goal.returns
returns c = acknowledged
