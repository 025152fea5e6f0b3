use Rattle.pay_book.proofs.Reaching.{largest_is_stuck as stuck}
use Rattle.pay_book.proofs.laws.largest_is_stuck.Goals as goal

pub returns : goal.returns
returns c = stuck
