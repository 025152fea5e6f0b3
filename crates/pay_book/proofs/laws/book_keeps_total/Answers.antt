use Rattle.pay_book.proofs.Settled.{book_total}
use Rattle.pay_book.proofs.laws.book_keeps_total.Goals as goal

pub returns : goal.returns
returns c = book_total
