use Rattle.std.proofs.Common.{refl}
use Rattle.pay_book.specs.Payment.{pair_entry, entry_of, is_several, entries_in, entries_of}
use Rattle.pay_book.specs.Front.{front_after_turns, largest_front}
use Rattle.pay_book.proofs.rows.greatest_amounts.Goals as goal

pub returns-clause-uncovered : goal.returns-clause-uncovered
unfolding pair_entry entry_of is_several entries_in entries_of front_after_turns largest_front
returns-clause-uncovered c = record { at_front = refl; at_balances = refl }

pub returns-clause-paid_whole : goal.returns-clause-paid_whole
unfolding pair_entry entry_of is_several entries_in entries_of front_after_turns largest_front
returns-clause-paid_whole c = record { at_front = refl; at_balances = refl }
