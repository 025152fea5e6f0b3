-- What the lines of a desk request, word by word.
use Rattle.std.specs.Prelude.{⊤, ℕ, ◌≤◌, nat_le, nat_lt, List, [], ◌∷◌, length, drop, codes, Option}
use Rattle.std.specs.Prelude.{Some, None, option_and_then, option_map, if◌then◌else◌}
use Rattle.std.specs.Str.{bytes_eq}
use Rattle.pay_frame.specs.declared.limits.TheConstants.{SEQS}
use Rattle.pay_text.specs.Words.{words_of, joined_words, first_word, is_none}
use Rattle.pay_text.specs.Numbers.{first_number}
use Rattle.pay_text.specs.Pairs.{pairs_within}
use Rattle.pay_book.specs.declared.payment.TheConstants.{MOST_PAYMENTS}
use Rattle.pay_desk.specs.declared.command.Command.{Command}
use Rattle.pay_desk.specs.declared.command.Command.TheVariants.{Pay, Note, Balance, State}
use Rattle.pay_desk.specs.declared.command.Command.TheVariants.{Statement, Entries, Waiting, Front}
use Rattle.pay_desk.specs.declared.command.TheConstants.{MOST_LINE}
use Rattle.pay_desk.specs.declared.command.Payments.TheVariants.{One, Several}
use Rattle.pay_book.specs.declared.note.TheConstants.{MOST_NOTE}
use Rattle.pay_book.specs.Notes.{is_note_text}
use Rattle.pay_desk.specs.Payments.{HasFew}

-- the numbers that payments of an account have
abbrev pub if_seq : ℕ → Option ℕ
if_seq n = if nat_lt n SEQS then Some n else None

abbrev pub first_seq : List (List ℕ) → Option ℕ
first_seq words = option_and_then if_seq (first_number words)

-- the request, if no word is left
abbrev pub if_last : {X : Type 0} → List (List ℕ) → X → Option X
if_last words x = if is_none words then Some x else None

-- the words that are left with the blanks between them, if there is one
abbrev pub rest_of_line : List (List ℕ) → Option (List ℕ)
rest_of_line [] = None
rest_of_line (word ∷ words) = Some (joined_words word words)

-- the command for a note of this text, if a note may contain it
abbrev pub note_under : ℕ → List ℕ → Option Command
note_under id text = if is_note_text text then Some (Note id text) else None

-- ---- commands, by the words after their names

-- `ID TO AMOUNT`
unfoldable pub pay_in : List (List ℕ) → Option Command
pay_in words =
    option_and_then (λ id. option_and_then (λ to. option_and_then (λ amount.
    if_last (drop 1 (drop 1 (drop 1 words))) (Pay (record { id = id; payments = One to amount })))
    (first_number (drop 1 (drop 1 words))))
    (first_number (drop 1 words)))
    (first_number words)

-- `ID TO AMOUNT ..`, of 1 to 32 payments
unfoldable pub pays_in : List (List ℕ) → Option Command
pays_in words =
    option_and_then (λ id. option_map (λ pairs. Pay (record { id = id; payments = Several pairs }))
    (pairs_within MOST_PAYMENTS (drop 1 words)))
    (first_number words)

-- `ID TEXT`, which may have blanks
unfoldable pub note_command : List (List ℕ) → Option Command
note_command words =
    option_and_then (λ id. option_and_then (note_under id) (rest_of_line (drop 1 words)))
    (first_number words)

-- `OWNER SEQ`
unfoldable pub state_in : List (List ℕ) → Option Command
state_in words =
    option_and_then (λ owner. option_and_then (λ seq.
    if_last (drop 1 (drop 1 words)) (State owner seq))
    (first_seq (drop 1 words)))
    (first_number words)

-- `A`
unfoldable pub balance_in : List (List ℕ) → Option Command
balance_in words =
    option_and_then (λ account. if_last (drop 1 words) (Balance account)) (first_number words)

-- `A`
unfoldable pub statement_command_in : List (List ℕ) → Option Command
statement_command_in words =
    option_and_then (λ account. if_last (drop 1 words) (Statement account)) (first_number words)

-- `A E`
unfoldable pub entries_command : List (List ℕ) → Option Command
entries_command words =
    option_and_then (λ account. option_and_then (λ from.
    if_last (drop 1 (drop 1 words)) (Entries account from))
    (first_number (drop 1 words)))
    (first_number words)

-- `A`
unfoldable pub waiting_command : List (List ℕ) → Option Command
waiting_command words =
    option_and_then (λ account. if_last (drop 1 words) (Waiting account)) (first_number words)

-- the command of this name
abbrev pub command_named : List (List ℕ) → List ℕ → Option Command
command_named words name =
    if bytes_eq name (codes "PAY") then pay_in words
    else if bytes_eq name (codes "PAYS") then pays_in words
    else if bytes_eq name (codes "NOTE") then note_command words
    else if bytes_eq name (codes "BALANCE") then balance_in words
    else if bytes_eq name (codes "STATE") then state_in words
    else if bytes_eq name (codes "STATEMENT") then statement_command_in words
    else if bytes_eq name (codes "ENTRIES") then entries_command words
    else if bytes_eq name (codes "WAITING") then waiting_command words
    else if bytes_eq name (codes "FRONT") then if_last words Front
    else None

-- what these words request
unfoldable pub command_by : List (List ℕ) → Option Command
command_by words = option_and_then (command_named (drop 1 words)) (first_word words)

-- what a line requests; a line over the bound is no command, whatever it says
unfoldable pub command_in : List ℕ → Option Command
command_in line = if nat_le (length line) MOST_LINE then command_by (words_of line) else None

-- What is to be paid or said is no more than a value holds.
abbrev pub AsksFew : Command → Type 0
AsksFew (Pay order) = HasFew order.payments
AsksFew (Note id text) = length text ≤ MOST_NOTE
AsksFew (Balance account) = ⊤
AsksFew (State owner seq) = ⊤
AsksFew (Statement account) = ⊤
AsksFew (Entries account from) = ⊤
AsksFew (Waiting account) = ⊤
AsksFew Front = ⊤
