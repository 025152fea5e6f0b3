use Rattle.pay_book.proofs.Settling.{fresh_is_settled}
use Rattle.pay_book.proofs.laws.fresh_book_is_settled.Goals as goal

pub returns : goal.returns
returns c = fresh_is_settled
