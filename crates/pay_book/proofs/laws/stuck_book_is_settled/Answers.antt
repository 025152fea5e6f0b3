use Rattle.pay_book.proofs.Settling.{settled_from_stuck}
use Rattle.pay_book.proofs.laws.stuck_book_is_settled.Goals as goal

pub returns : goal.returns
returns c = settled_from_stuck
