use Rattle.pay_book.proofs.Reaching.{Reach-max}
use Rattle.pay_book.proofs.laws.reached_fronts_join.Goals as goal

pub returns : goal.returns
returns c = λ opening logs m n left right. Reach-max opening logs m left right
