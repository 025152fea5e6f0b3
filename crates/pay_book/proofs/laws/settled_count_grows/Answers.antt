use Rattle.pay_book.proofs.Settled.{settled_count_grows as grows}
use Rattle.pay_book.proofs.laws.settled_count_grows.Goals as goal

pub returns : goal.returns
returns c = grows
