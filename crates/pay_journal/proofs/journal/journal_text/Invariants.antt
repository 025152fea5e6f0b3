use Rattle.std.proofs.Common.{◌≡◌, ◌++◌}
use Rattle.std.specs.Prelude.{codes}
use Rattle.std.specs.List.{flat_map, range_with_len}
use Rattle.jiff.specs.Words.{date_text}
use Rattle.pay_desk.specs.Words.{end_of_line}
use Rattle.pay_journal.specs.Journal.{declared_words, account_transactions, opening_words}
use Rattle.pay_journal.proofs.journal.journal_text.Given as goal

-- the entries of the accounts so far
abbrev pub invariant-loop-account : goal.invariant-loop-account
invariant-loop-account l =
    (l.text.items ≡ l.initial.text.items ++ flat_map (account_transactions (date_text l.fn.date) l.export) (range_with_len 0 l.account))
