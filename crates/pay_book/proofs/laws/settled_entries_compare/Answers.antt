use Rattle.pay_book.proofs.Settled.{settled_entries_compare as compare}
use Rattle.pay_book.proofs.laws.settled_entries_compare.Goals as goal

pub returns : goal.returns
returns c = compare
