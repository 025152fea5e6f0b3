use Rattle.std.proofs.Common.{refl}
use Rattle.pay_book.specs.Payment.{pair_entry, entry_of, is_several, entries_in, entries_of}
use Rattle.pay_book.specs.Front.{front_after_turns, largest_front}
use Rattle.pay_book.proofs.rows.uncovered_payment_waits.Goals as goal

pub returns-clause-waiting : goal.returns-clause-waiting
unfolding pair_entry entry_of is_several entries_in entries_of front_after_turns largest_front
returns-clause-waiting c = record { at_front = refl; at_balances = refl }

pub returns-clause-first_settled : goal.returns-clause-first_settled
unfolding pair_entry entry_of is_several entries_in entries_of front_after_turns largest_front
returns-clause-first_settled c = record { at_front = refl; at_balances = refl }
