use Rattle.pay_book.proofs.Settling.{short_are_countable}
use Rattle.pay_book.proofs.laws.short_lists_are_countable.Goals as goal

pub returns : goal.returns
returns c = short_are_countable
