use Rattle.pay_book.proofs.Computing.{largest_front_is_largest}
use Rattle.pay_book.proofs.laws.largest_is_computed.Goals as goal

pub returns : goal.returns
returns c = largest_front_is_largest
