use Rattle.pay_record.proofs.OneRecord.{one_record}
use Rattle.pay_record.proofs.laws.one_record.Goals as goal

pub returns : goal.returns
returns c = one_record
