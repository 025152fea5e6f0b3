use Rattle.pay_book.proofs.Reaching.{largest_from_stuck}
use Rattle.pay_book.proofs.laws.stuck_is_largest.Goals as goal

pub returns : goal.returns
returns c = largest_from_stuck
