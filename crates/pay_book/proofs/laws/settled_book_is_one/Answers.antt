use Rattle.pay_book.proofs.Settled.{settled_is_settled_book}
use Rattle.pay_book.proofs.laws.settled_book_is_one.Goals as goal

pub returns : goal.returns
returns c = settled_is_settled_book
