use Rattle.pay_book.proofs.Growing.{Reach-grown}
use Rattle.pay_book.proofs.laws.reached_stays_reached.Goals as goal

pub returns : goal.returns
returns c = λ opening old new front grow reached. Reach-grown opening old new grow reached
