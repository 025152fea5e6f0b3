use Rattle.pay_book.proofs.Former.{tells_whole}
use Rattle.pay_book.proofs.laws.wholly_settled.Goals as goal

pub returns : goal.returns
returns c = tells_whole
