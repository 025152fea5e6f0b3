use Rattle.std.proofs.Common.{refl}
use Rattle.pay_book.specs.Payment.{pair_entry, entry_of, is_several, entries_in}
use Rattle.pay_book.specs.Statement.{numbered_entries_of, statement_of}
use Rattle.pay_book.proofs.rows.statement_of_several.Goals as goal

pub returns-clause-payer : goal.returns-clause-payer
unfolding pair_entry entry_of is_several entries_in numbered_entries_of statement_of
returns-clause-payer c = refl

pub returns-clause-payee : goal.returns-clause-payee
unfolding pair_entry entry_of is_several entries_in numbered_entries_of statement_of
returns-clause-payee c = refl
