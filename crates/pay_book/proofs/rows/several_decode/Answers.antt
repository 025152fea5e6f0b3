use Rattle.std.proofs.Common.{refl}
use Rattle.pay_book.specs.Payment.{pair_entry, entry_of, is_several, entries_in}
use Rattle.pay_book.proofs.rows.several_decode.Goals as goal

pub returns-clause-payments : goal.returns-clause-payments
unfolding pair_entry entry_of is_several entries_in
returns-clause-payments c = refl

pub returns-clause-void_pair : goal.returns-clause-void_pair
unfolding pair_entry entry_of is_several entries_in
returns-clause-void_pair c = refl

pub returns-clause-most : goal.returns-clause-most
unfolding pair_entry entry_of is_several entries_in
returns-clause-most c = refl

pub returns-clause-too_many : goal.returns-clause-too_many
unfolding pair_entry entry_of is_several entries_in
returns-clause-too_many c = refl

pub returns-clause-none : goal.returns-clause-none
unfolding pair_entry entry_of is_several entries_in
returns-clause-none c = refl

pub returns-clause-longer : goal.returns-clause-longer
unfolding pair_entry entry_of is_several entries_in
returns-clause-longer c = refl

pub returns-clause-shorter : goal.returns-clause-shorter
unfolding pair_entry entry_of is_several entries_in
returns-clause-shorter c = refl
