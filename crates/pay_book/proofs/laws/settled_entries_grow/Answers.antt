use Rattle.pay_book.proofs.Settled.{settled_entries_grow as grow}
use Rattle.pay_book.proofs.laws.settled_entries_grow.Goals as goal

pub returns : goal.returns
returns c = grow
