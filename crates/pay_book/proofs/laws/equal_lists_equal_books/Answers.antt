use Rattle.pay_book.proofs.Settling.{IsSettled-same, same_books}
use Rattle.pay_book.proofs.laws.equal_lists_equal_books.Goals as goal

pub returns : goal.returns
returns c = λ one other p q opening same at_p at_q. same_books other p q opening (IsSettled-same one other p same at_p) at_q
