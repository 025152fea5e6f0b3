use Rattle.pay_log.proofs.Logs.{one_log, read_again}
use Rattle.pay_log.proofs.laws.one_reading.Goals as goal

pub returns : goal.returns
returns c = record { one = one_log; again = read_again }
