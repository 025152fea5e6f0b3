use Rattle.std.proofs.Common.{refl}
use Rattle.pay_book.specs.Payment.{pair_entry, entry_of, is_several, entries_in, entries_of}
use Rattle.pay_book.specs.Front.{front_after_turns, largest_front}
use Rattle.pay_book.proofs.rows.void_entry_passes.Goals as goal

pub returns-clause-short : goal.returns-clause-short
unfolding pair_entry entry_of is_several entries_in entries_of front_after_turns largest_front
returns-clause-short c = record { at_front = refl; at_balances = refl }

pub returns-clause-long : goal.returns-clause-long
unfolding pair_entry entry_of is_several entries_in entries_of front_after_turns largest_front
returns-clause-long c = record { at_front = refl; at_balances = refl }
