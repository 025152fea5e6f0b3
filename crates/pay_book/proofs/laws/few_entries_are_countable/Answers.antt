use Rattle.pay_book.proofs.Settling.{few_are_countable}
use Rattle.pay_book.proofs.laws.few_entries_are_countable.Goals as goal

pub returns : goal.returns
returns c = few_are_countable
