use Rattle.pay_book.proofs.Settling.{IsSettled-same}
use Rattle.pay_book.proofs.laws.same_lists_stay_settled.Goals as goal

pub returns : goal.returns
returns c = IsSettled-same
