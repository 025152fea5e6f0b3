use Rattle.pay_record.proofs.OneRecord.{one_list}
use Rattle.pay_record.proofs.laws.one_list.Goals as goal

pub returns : goal.returns
returns c = one_list
