use Rattle.pay_book.proofs.Settling.{sum_front-le}
use Rattle.pay_book.proofs.laws.settled_are_listed.Goals as goal

pub returns : goal.returns
returns c = sum_front-le
