use Rattle.std.proofs.Common.{refl}
use Rattle.pay_book.specs.Excerpt.{settled_from, waiting_of}
use Rattle.pay_book.specs.Notes.{note_of}
use Rattle.pay_book.specs.Payment.{pair_entry, entry_of, is_several, entries_in}
use Rattle.pay_book.specs.Statement.{numbered_entries_of}
use Rattle.pay_book.proofs.rows.excerpts_of_several.Goals as goal

pub returns-clause-all : goal.returns-clause-all
unfolding pair_entry entry_of is_several entries_in note_of numbered_entries_of settled_from
returns-clause-all c = refl

pub returns-clause-later : goal.returns-clause-later
unfolding pair_entry entry_of is_several entries_in note_of numbered_entries_of settled_from
returns-clause-later c = refl

pub returns-clause-nothing_new : goal.returns-clause-nothing_new
unfolding pair_entry entry_of is_several entries_in note_of numbered_entries_of settled_from
returns-clause-nothing_new c = refl

pub returns-clause-to_come : goal.returns-clause-to_come
unfolding pair_entry entry_of is_several entries_in note_of numbered_entries_of settled_from
returns-clause-to_come c = refl

pub returns-clause-of_payee : goal.returns-clause-of_payee
unfolding pair_entry entry_of is_several entries_in note_of numbered_entries_of settled_from
returns-clause-of_payee c = refl

pub returns-clause-waiting : goal.returns-clause-waiting
unfolding pair_entry entry_of is_several entries_in note_of numbered_entries_of waiting_of
returns-clause-waiting c = refl

pub returns-clause-none_waits : goal.returns-clause-none_waits
unfolding pair_entry entry_of is_several entries_in note_of numbered_entries_of waiting_of
returns-clause-none_waits c = refl
