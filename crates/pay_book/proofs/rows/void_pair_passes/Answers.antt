use Rattle.std.proofs.Common.{refl}
use Rattle.pay_book.specs.Payment.{pair_entry, entry_of, is_several, entries_in, entries_of}
use Rattle.pay_book.specs.Front.{front_after_turns, largest_front}
use Rattle.pay_book.proofs.rows.void_pair_passes.Goals as goal

pub returns-clause-pair : goal.returns-clause-pair
unfolding pair_entry entry_of is_several entries_in entries_of front_after_turns largest_front
returns-clause-pair c = record { at_front = refl; at_balances = refl }

pub returns-clause-none : goal.returns-clause-none
unfolding pair_entry entry_of is_several entries_in entries_of front_after_turns largest_front
returns-clause-none c = record { at_front = refl; at_balances = refl }
