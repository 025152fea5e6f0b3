use Rattle.pay_book.proofs.Settled.{settled_book_is_settled}
use Rattle.pay_book.proofs.laws.settled_book_exists.Goals as goal

pub returns : goal.returns
returns c = settled_book_is_settled
