use Rattle.std.proofs.Common.{refl}
use Rattle.pay_book.specs.Payment.{pair_entry, entry_of, is_several, entries_in}
use Rattle.pay_book.specs.Statement.{numbered_entries_of, statement_of}
use Rattle.pay_book.proofs.rows.statement_after_circular_debts.Goals as goal

pub returns : goal.returns
unfolding pair_entry entry_of is_several entries_in numbered_entries_of statement_of
returns c = refl
