use Rattle.pay_book.proofs.Settled.{nobody_owes}
use Rattle.pay_book.proofs.laws.nobody_owes_once_settled.Goals as goal

pub returns : goal.returns
returns c = nobody_owes
