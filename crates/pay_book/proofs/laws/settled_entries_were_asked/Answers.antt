use Rattle.pay_book.proofs.Settled.{settled_entries_were_asked as asked}
use Rattle.pay_book.proofs.laws.settled_entries_were_asked.Goals as goal

pub returns : goal.returns
returns c = asked
