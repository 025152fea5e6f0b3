use Rattle.pay_book.proofs.Reaching.{Reach-within}
use Rattle.pay_book.proofs.laws.reached_is_within_lists.Goals as goal

pub returns : goal.returns
returns c = λ opening logs front reached. Reach-within opening logs reached
