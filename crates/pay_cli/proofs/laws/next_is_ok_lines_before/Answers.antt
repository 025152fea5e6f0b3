use Rattle.pay_cli.proofs.Counting.{counts}
use Rattle.pay_cli.proofs.laws.next_is_ok_lines_before.Goals as goal

pub returns : goal.returns
returns c = record { law = counts }
