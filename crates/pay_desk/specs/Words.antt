-- The answers of a desk, each line with its line feed.
use Rattle.std.specs.Prelude.{ℕ, ◌+◌, ◌-◌, List, [], ◌∷◌, ◌++◌, length, decimal, codes}
use Rattle.std.specs.Prelude.{Option, Some, None}
use Rattle.std.specs.List.{flat_map}
use Rattle.pay_book.specs.declared.excerpts.ShownEntry.{ShownEntry}
use Rattle.pay_book.specs.declared.line.Line.{Line}
use Rattle.pay_book.specs.declared.line.Line.TheVariants.{Out, Void, In}
use Rattle.pay_book.specs.declared.payment.Entry.{Entry}
use Rattle.pay_book.specs.declared.payment.Entry.TheVariants as entry
use Rattle.pay_book.specs.Balance.{amount_of}
use Rattle.pay_book.specs.Excerpt.{ExcerptFields}
use Rattle.pay_member.specs.declared.question.PaymentState.{PaymentState}
use Rattle.pay_member.specs.declared.question.PaymentState.TheVariants.{Unknown, Asked, Waiting}
use Rattle.pay_member.specs.declared.question.PaymentState.TheVariants.{Settled}
use Rattle.pay_desk.specs.declared.fault.DeskFault.{DeskFault}
use Rattle.pay_desk.specs.Faults.{desk_fault_number, desk_fault_name}

-- a line feed
abbrev pub end_of_line : List ℕ
end_of_line = 10 ∷ []

-- `refused C NAME`
unfoldable pub refused_words : DeskFault → List ℕ
refused_words fault =
    codes "refused " ++ decimal (desk_fault_number fault) ++ codes " " ++ desk_fault_name fault
    ++ end_of_line

-- `asked ID seq S`
unfoldable pub asked_words : ℕ → ℕ → List ℕ
asked_words id seq = codes "asked " ++ decimal id ++ codes " seq " ++ decimal seq ++ end_of_line

-- `balance A B`
unfoldable pub balance_words : ℕ → ℕ → List ℕ
balance_words account balance =
    codes "balance " ++ decimal account ++ codes " " ++ decimal balance ++ end_of_line

unfoldable pub state_name : PaymentState → List ℕ
state_name Unknown = codes "unknown"
state_name Asked = codes "asked"
state_name Waiting = codes "waiting"
state_name Settled = codes "settled"

-- `state OWNER SEQ WORD`
unfoldable pub state_words : ℕ → ℕ → PaymentState → List ℕ
state_words owner seq state =
    codes "state " ++ decimal owner ++ codes " " ++ decimal seq ++ codes " " ++ state_name state
    ++ end_of_line

-- `out SEQ to PAYEE AMOUNT`, `void SEQ` or `in OWNER SEQ AMOUNT`
unfoldable pub line_words : Line → List ℕ
line_words (Out seq payee amount) =
    codes "out " ++ decimal seq ++ codes " to " ++ decimal payee ++ codes " " ++ decimal amount
    ++ end_of_line
line_words (Void seq) = codes "void " ++ decimal seq ++ end_of_line
line_words (In owner seq amount) =
    codes "in " ++ decimal owner ++ codes " " ++ decimal seq ++ codes " " ++ decimal amount
    ++ end_of_line

-- `end A balance B`
unfoldable pub end_words : ℕ → ℕ → List ℕ
end_words account balance =
    codes "end " ++ decimal account ++ codes " balance " ++ decimal balance ++ end_of_line

-- the lines of a statement, and its end
unfoldable pub statement_words : ℕ → List Line → ℕ → List ℕ
statement_words account lines balance = flat_map line_words lines ++ end_words account balance

-- ` void`, or ` note TEXT` of a note
unfoldable pub void_words : Option (List ℕ) → List ℕ
void_words None = codes " void"
void_words (Some text) = codes " note " ++ text

-- ` to PAYEE AMOUNT`, or what is said of an entry that pays nothing
unfoldable pub payment_words : Entry → Option (List ℕ) → List ℕ
payment_words (entry.Pay payee amount) _ =
    codes " to " ++ decimal payee ++ codes " " ++ decimal amount
payment_words entry.Void text = void_words text

-- `WORD A E seq S to PAYEE AMOUNT`, `WORD A E seq S void` or `WORD A E seq S note TEXT`: entry E of
-- account A
unfoldable pub entry_words : List ℕ → ℕ → ℕ → ShownEntry → List ℕ
entry_words word account number e =
    word ++ codes " " ++ decimal account ++ codes " " ++ decimal number ++ codes " seq "
    ++ decimal e.seq ++ payment_words e.entry e.note ++ end_of_line

-- entries one after the other, the first of this number
unfoldable pub entries_words : List ℕ → ℕ → ℕ → List ShownEntry → List ℕ
entries_words word account number [] = []
entries_words word account number (e ∷ entries) =
    entry_words word account number e ++ entries_words word account (number + 1) entries

-- `end A E`
unfoldable pub next_entry_words : ℕ → ℕ → List ℕ
next_entry_words account number =
    codes "end " ++ decimal account ++ codes " " ++ decimal number ++ end_of_line

-- a line for each settled entry, and the number of the next
unfoldable pub settled_words : ℕ → ExcerptFields → List ℕ
settled_words account excerpt =
    entries_words (codes "entry") account excerpt.first excerpt.entries
    ++ next_entry_words account (excerpt.first + length excerpt.entries)

-- what a balance lacks for the first of these entries
unfoldable pub short_by : ℕ → List ShownEntry → ℕ
short_by balance [] = 0
short_by balance (e ∷ entries) = amount_of e.entry - balance

-- `end A short B`
unfoldable pub short_words : ℕ → ℕ → List ℕ
short_words account short =
    codes "end " ++ decimal account ++ codes " short " ++ decimal short ++ end_of_line

-- a line for each entry that waits, and what the balance lacks for the first
unfoldable pub waiting_words : ℕ → ExcerptFields → List ℕ
waiting_words account excerpt =
    entries_words (codes "waiting") account excerpt.first excerpt.entries
    ++ short_words account (short_by excerpt.balance excerpt.entries)

-- ` F0 F1 ..`
unfoldable pub number_words : List ℕ → List ℕ
number_words numbers = flat_map (λ n. codes " " ++ decimal n) numbers

-- `front F0 F1 ..`
unfoldable pub front_words : List ℕ → List ℕ
front_words fronts = codes "front" ++ number_words fronts ++ end_of_line
