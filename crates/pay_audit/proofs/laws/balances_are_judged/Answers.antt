use Rattle.pay_audit.proofs.Judging.{right_balances}
use Rattle.pay_audit.proofs.laws.balances_are_judged.Goals as goal

pub returns : goal.returns
returns c = right_balances c.largest_is_computed.ensures c.settled_book_exists.ensures
