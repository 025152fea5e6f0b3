use Rattle.pay_book.proofs.Settling.{IsBook-grown}
use Rattle.pay_book.proofs.laws.book_stays.Goals as goal

pub returns : goal.returns
returns c = IsBook-grown
