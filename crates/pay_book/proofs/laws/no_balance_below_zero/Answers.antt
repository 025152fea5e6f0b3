use Rattle.pay_book.proofs.Conserving.{balance_at-nonnegative}
use Rattle.pay_book.proofs.laws.no_balance_below_zero.Goals as goal

pub returns : goal.returns
returns c = balance_at-nonnegative
