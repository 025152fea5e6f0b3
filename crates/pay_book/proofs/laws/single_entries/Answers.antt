use Rattle.pay_book.proofs.Former.{is_as_former}
use Rattle.pay_book.proofs.laws.single_entries.Goals as goal

pub returns : goal.returns
returns c = is_as_former
