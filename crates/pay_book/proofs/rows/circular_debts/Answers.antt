use Rattle.std.proofs.Common.{refl}
use Rattle.pay_book.specs.Payment.{pair_entry, entry_of, is_several, entries_in, entries_of}
use Rattle.pay_book.specs.Front.{front_after_turns, largest_front}
use Rattle.pay_book.proofs.rows.circular_debts.Goals as goal

pub returns-clause-waiting : goal.returns-clause-waiting
unfolding pair_entry entry_of is_several entries_in entries_of front_after_turns largest_front
returns-clause-waiting c = record { at_front = refl; at_balances = refl }

pub returns-clause-settled : goal.returns-clause-settled
unfolding pair_entry entry_of is_several entries_in entries_of front_after_turns largest_front
returns-clause-settled c = record { at_front = refl; at_balances = refl }
