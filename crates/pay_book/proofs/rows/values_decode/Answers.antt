use Rattle.std.proofs.Common.{refl}
use Rattle.pay_book.specs.Payment.{pair_entry, entry_of}
use Rattle.pay_book.proofs.rows.values_decode.Goals as goal

pub returns-clause-payments : goal.returns-clause-payments
unfolding pair_entry entry_of
returns-clause-payments c = refl

pub returns-clause-no_payments : goal.returns-clause-no_payments
unfolding pair_entry entry_of
returns-clause-no_payments c = refl

pub returns-clause-own_payee : goal.returns-clause-own_payee
unfolding pair_entry entry_of
returns-clause-own_payee c = refl

pub returns-clause-no_such_payee : goal.returns-clause-no_such_payee
unfolding pair_entry entry_of
returns-clause-no_such_payee c = refl
