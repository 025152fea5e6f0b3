use Rattle.pay_book.proofs.Settling.{group_is_countable}
use Rattle.pay_book.proofs.laws.group_lists_are_countable.Goals as goal

pub returns : goal.returns
returns c = group_is_countable
