use Rattle.pay_book.proofs.Settling.{can_settle_grown}
use Rattle.pay_book.proofs.laws.grown_list_can_settle.Goals as goal

pub returns : goal.returns
returns c = can_settle_grown
