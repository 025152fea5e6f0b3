use Rattle.pay_book.proofs.Settling.{settled_is_largest as largest}
use Rattle.pay_book.proofs.laws.settled_is_largest.Goals as goal

pub returns : goal.returns
returns c = largest
