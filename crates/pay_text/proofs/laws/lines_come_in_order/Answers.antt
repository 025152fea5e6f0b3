use Rattle.pay_text.proofs.Following.{lines_from_start}
use Rattle.pay_text.proofs.laws.lines_come_in_order.Goals as goal

pub returns : goal.returns
returns c = record { law = lines_from_start }
