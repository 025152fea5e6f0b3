use Rattle.std.proofs.Common.{refl}
use Rattle.std.specs.Fmt.{digits}
use Rattle.pay_book.specs.Payment.{pair_entry, entry_of, is_several, entries_in, entries_of}
use Rattle.pay_book.specs.Front.{front_after_turns, largest_front}
use Rattle.pay_book.specs.Statement.{numbered_entries_of, statement_of}
use Rattle.pay_journal.specs.Journal.{declared_words, account_transactions, entry_name, transaction_words, journal_on, names_words, opening_words, posting_words, title_words}
use Rattle.pay_journal.proofs.journal.journal_by_hand.Goals as goal

pub returns : goal.returns
unfolding digits pair_entry entry_of is_several entries_in entries_of front_after_turns largest_front numbered_entries_of statement_of
    declared_words account_transactions entry_name transaction_words journal_on names_words opening_words posting_words title_words
returns c = refl
