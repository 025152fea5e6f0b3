use Rattle.pay_book.proofs.Reaching.{largest_is_one as one}
use Rattle.pay_book.proofs.laws.largest_is_one.Goals as goal

pub returns : goal.returns
returns c = one
