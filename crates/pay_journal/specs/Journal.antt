-- An export's settled payments as plain-text accounting: a journal that hledger and ledger both
-- read. It names no unit of amounts, since the payments don't.
use Rattle.std.specs.Prelude.{◌≡◌, ℕ, List, [], ◌++◌, codes, decimal, slice_index, pos, ◌≤ℤ◌}
use Rattle.std.specs.List.{flat_map, enumerate_from, range_with_len}
use Rattle.jiff.specs.Types.{Date}
use Rattle.jiff.specs.Words.{date_text}
use Rattle.pay_book.specs.declared.line.Line.{Line}
use Rattle.pay_book.specs.declared.line.Line.TheVariants.{Out, Void, In}
use Rattle.pay_desk.specs.Words.{end_of_line}
use Rattle.pay_audit.specs.Export.{ExportFields}
use Rattle.pay_journal.specs.Statements.{lines_in}

-- The word is a date as YYYY-MM-DD, of a year that both programs have.
abbrev pub IsDateWord : List ℕ → Date → Type 0
IsDateWord word date = (word ≡ date_text date) × (pos 1400 ≤ℤ date.year)

-- The name of an account, declared so that no program warns of an unknown one.
unfoldable pub declared_words : ℕ → List ℕ
declared_words account = codes "account account:" ++ decimal account ++ end_of_line

-- The names of all accounts, and of the account that opening balances come from.
unfoldable pub names_words : ℕ → List ℕ
names_words members =
    flat_map declared_words (range_with_len 0 members) ++ codes "account equity:opening"
    ++ end_of_line

-- What a transaction does to an account: the amount, with its sign in front.
unfoldable pub posting_words : List ℕ → ℕ → ℕ → List ℕ
posting_words sign account amount =
    codes "    account:" ++ decimal account ++ codes "  " ++ sign ++ decimal amount ++ end_of_line

-- what an account opened with
abbrev pub opening_posting : ExportFields → ℕ → List ℕ
opening_posting e account = posting_words [] account (slice_index e.genesis.opening account)

-- The first transaction: what all accounts opened with. Its last amount balances it.
unfoldable pub opening_words : List ℕ → ExportFields → List ℕ
opening_words day e =
    end_of_line ++ day ++ codes " opening balances" ++ end_of_line
    ++ flat_map (opening_posting e) (range_with_len 0 e.genesis.members)
    ++ codes "    equity:opening" ++ end_of_line

-- An account's entry: the number of its value, and its own number as fronts count entries.
unfoldable pub entry_name : ℕ → ℕ → ℕ → List ℕ
entry_name account seq number =
    codes "account " ++ decimal account ++ codes " seq " ++ decimal seq ++ codes " entry "
    ++ decimal number
    ++ end_of_line

-- The first line of an entry's transaction.
unfoldable pub title_words : List ℕ → ℕ → ℕ → ℕ → List ℕ
title_words day account number seq =
    end_of_line ++ day ++ codes " (" ++ decimal account ++ codes "." ++ decimal number ++ codes ") "
    ++ entry_name account seq number

-- What a line of an account's statement becomes. A payment of its own is a transaction, and a void
-- entry is a comment. What was paid to the account is its payer's transaction.
unfoldable pub transaction_words : List ℕ → ℕ → ℕ → Line → List ℕ
transaction_words day account number (Out seq payee amount) =
    title_words day account number seq
    ++ posting_words (codes "-") account amount
    ++ posting_words [] payee amount
transaction_words day account number (Void seq) =
    end_of_line ++ codes "; void " ++ entry_name account seq number
transaction_words day account number (In owner seq amount) = []

-- what settled of an account's own entries, in the order of its statement
unfoldable pub account_transactions : List ℕ → ExportFields → ℕ → List ℕ
account_transactions day e account =
    flat_map (λ l. transaction_words day account l.0 l.1) (enumerate_from 0 (lines_in e account))

-- The journal of a day, in its text form: the names of all accounts, what they opened with, and
-- each account's entries, account by account.
unfoldable pub journal_on : List ℕ → ExportFields → List ℕ
journal_on day e =
    names_words e.genesis.members
    ++ opening_words day e
    ++ flat_map (account_transactions day e) (range_with_len 0 e.genesis.members)

-- The journal of a date.
-- page: `journal_of`, `IsDateWord`: the journal of an export on a date, in the format that the
--   manuals of `hledger` and `ledger` share; a word is this date as ISO 8601's YYYY-MM-DD, of a
--   year that `ledger` has
abbrev pub journal_of : Date → ExportFields → List ℕ
journal_of date e = journal_on (date_text date) e
