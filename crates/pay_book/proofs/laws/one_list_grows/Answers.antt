use Rattle.pay_book.proofs.Settling.{AllGrow-from_one}
use Rattle.pay_book.proofs.laws.one_list_grows.Goals as goal

pub returns : goal.returns
returns c = AllGrow-from_one
