use Rattle.std.proofs.Common.{length}
use Rattle.pay_book.proofs.Entries.{entries_of-same}
use Rattle.pay_book.proofs.Growing.{balance_at-same}
use Rattle.pay_book.proofs.laws.equal_lists_equal_balances.Goals as goal

pub returns : goal.returns
returns c = λ opening one other front same. balance_at-same opening _ _ front (λ a h. entries_of-same (length opening) one other a (same a h))
