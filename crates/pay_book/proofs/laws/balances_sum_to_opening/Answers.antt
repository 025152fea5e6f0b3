use Rattle.std.proofs.Common.{length}
use Rattle.pay_book.specs.Payment.{entries_of}
use Rattle.pay_book.proofs.Entries.{entries_of-within}
use Rattle.pay_book.proofs.Conserving.{sum-balances}
use Rattle.pay_book.proofs.laws.balances_sum_to_opening.Goals as goal

pub returns : goal.returns
returns c = λ opening lists front balances are. sum-balances opening (entries_of (length opening) lists) front balances (entries_of-within (length opening) lists) are
