-- Statements of an export: what a desk answers, for the ledger that the export's lists allow.
use Rattle.std.specs.Prelude.{ℕ, nat_lt, List, slice_index, Option, Some, None, option_and_then}
use Rattle.std.specs.Prelude.{if◌then◌else◌}
use Rattle.std.specs.List.{flat_map, range_with_len}
use Rattle.pay_text.specs.Numbers.{number_of}
use Rattle.pay_book.specs.declared.line.Line.{Line}
use Rattle.pay_book.specs.Statement.{statement_of}
use Rattle.pay_desk.specs.Words.{statement_words}
use Rattle.pay_audit.specs.Export.{ExportFields, lists_of}
use Rattle.pay_audit.specs.Verdict.{book_of}

abbrev pub account_if_there : ExportFields → ℕ → Option ℕ
account_if_there e account = if nat_lt account e.genesis.members then Some account else None

-- the account that a word names
abbrev pub account_named : ExportFields → List ℕ → Option ℕ
account_named e word = option_and_then (account_if_there e) (number_of word)

-- what settled on an account
abbrev pub lines_in : ExportFields → ℕ → List Line
lines_in e account =
    statement_of e.genesis.members (lists_of e) (slice_index (book_of e).front) account

-- An account's statement, in the words of a desk.
unfoldable pub statement_in : ExportFields → ℕ → List ℕ
statement_in e account =
    statement_words account (lines_in e account) (slice_index (book_of e).balances account)

-- the statements of all accounts, in their order
abbrev pub statements_in : ExportFields → List ℕ
statements_in e = flat_map (statement_in e) (range_with_len 0 e.genesis.members)
