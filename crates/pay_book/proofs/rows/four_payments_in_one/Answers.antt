use Rattle.std.proofs.Common.{refl}
use Rattle.pay_book.specs.Payment.{pair_entry, entry_of, is_several, count_in, entries_in, entries_of}
use Rattle.pay_book.specs.Places.{place_in, places_of}
use Rattle.pay_book.specs.Front.{front_after_turns, largest_front}
use Rattle.pay_book.proofs.rows.four_payments_in_one.Goals as goal

pub returns-clause-half : goal.returns-clause-half
unfolding pair_entry entry_of is_several entries_in entries_of front_after_turns largest_front
returns-clause-half c = record { at_front = refl; at_balances = refl }

pub returns-clause-more : goal.returns-clause-more
unfolding pair_entry entry_of is_several entries_in entries_of front_after_turns largest_front
returns-clause-more c = record { at_front = refl; at_balances = refl }

pub returns-clause-places : goal.returns-clause-places
unfolding is_several count_in place_in places_of
returns-clause-places c = refl
