use Rattle.pay_record.proofs.Starting.{shorter}
use Rattle.pay_record.proofs.crashes.shorter_starts_too.Goals as goal

pub returns : goal.returns
returns c = shorter
