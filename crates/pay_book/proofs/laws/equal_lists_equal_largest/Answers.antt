use Rattle.std.proofs.Common.{length}
use Rattle.pay_book.proofs.Entries.{entries_of-same}
use Rattle.pay_book.proofs.Computing.{largest_front-same}
use Rattle.pay_book.proofs.laws.equal_lists_equal_largest.Goals as goal

pub returns : goal.returns
returns c = λ opening one other same. largest_front-same opening _ _ (λ a h. entries_of-same (length opening) one other a (same a h))
