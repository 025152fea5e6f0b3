-- What a desk answers to a line, as a function of what it keeps, the line, and its teller's reply.
use Rattle.std.specs.Prelude.{◌≡◌, ℕ, ◌==◌, ◌||◌, nat_lt, Bool, true, List, Option, Some, None}
use Rattle.std.specs.Prelude.{Result, Ok, Err, if◌then◌else◌, ◌⊎◌}
use Rattle.std.specs.List.{list_all, list_any}
use Rattle.pay_book.specs.Statement.{StatementFields}
use Rattle.pay_member.specs.declared.fault.QueryFault.{QueryFault}
use Rattle.pay_member.specs.declared.fault.QueryFault.TheVariants as query
use Rattle.pay_member.specs.declared.reading.Reading.{Reading}
use Rattle.pay_member.specs.declared.reading.Reading.TheVariants as reading
use Rattle.pay_member.specs.declared.event.Told.{Told}
use Rattle.pay_desk.specs.declared.command.Command.{Command}
use Rattle.pay_desk.specs.declared.command.Command.TheVariants.{Pay, Note, Balance, State}
use Rattle.pay_desk.specs.declared.command.Command.TheVariants.{Statement, Entries, Waiting, Front}
use Rattle.pay_desk.specs.declared.command.Order.{Order}
use Rattle.pay_desk.specs.declared.desk.Desk.{Desk}
use Rattle.pay_desk.specs.declared.fault.DeskFault.{DeskFault}
use Rattle.pay_desk.specs.declared.fault.DeskFault.TheVariants.{BadLine, NoAccount, ZeroOrSelf}
use Rattle.pay_desk.specs.declared.fault.DeskFault.TheVariants.{IdUsed, Memory, Forgotten}
use Rattle.pay_desk.specs.declared.kept.Kept.{Kept}
use Rattle.pay_desk.specs.declared.fault.ReadFault.{ReadFault}
use Rattle.pay_desk.specs.declared.fault.ReadFault.TheVariants as read
use Rattle.pay_desk.specs.declared.fault.TellerFault.{TellerFault}
use Rattle.pay_desk.specs.Calls.{Exchange, Asks, Queries, AsksQuestion, reads_at_length}
use Rattle.pay_desk.specs.Faults.{desk_fault_of}
use Rattle.pay_desk.specs.Kept.{kept_under, is_value, kept_after}
use Rattle.pay_book.specs.Notes.{note_value}
use Rattle.pay_desk.specs.Payments.{pairs_of, value_of_payments, if_named}
use Rattle.pay_desk.specs.Words.{refused_words, asked_words, balance_words, state_words}
use Rattle.pay_desk.specs.Words.{statement_words, settled_words, waiting_words, front_words}

-- ---- the words for the teller's reply

-- the words for a submitted value
abbrev pub asked_or_refused : ℕ → Result ℕ TellerFault → List ℕ
asked_or_refused id (Ok seq) = asked_words id seq
asked_or_refused id (Err fault) = refused_words (desk_fault_of fault)

-- the words for an account's state
abbrev pub balance_or_refused : ℕ → Result Told QueryFault → List ℕ
balance_or_refused account (Ok told) = balance_words account told.balance
balance_or_refused account (Err query.NoAccount) = refused_words NoAccount
balance_or_refused account (Err query.Memory) = refused_words Memory

-- the words for an answer that exists only about an existing account
abbrev pub if_there : {X : Type 0} → (X → List ℕ) → Option X → List ℕ
if_there words (Some answer) = words answer
if_there words None = refused_words NoAccount

-- the words for what was read
abbrev pub read_or_refused : {A : Type 0} → (A → List ℕ) → Result A ReadFault → List ℕ
read_or_refused words (Ok answer) = words answer
read_or_refused words (Err read.Forgotten) = refused_words Forgotten
read_or_refused words (Err read.Memory) = refused_words Memory

abbrev pub stated_words : ℕ → StatementFields → List ℕ
stated_words account statement = statement_words account statement.lines statement.balance

-- a kept id: the submitted value has the answer that it had, and another value none
abbrev pub kept_words : Kept → ℕ → Option (List ℕ) → List ℕ
kept_words kept id value =
    if is_value value kept.value then asked_words id kept.seq else refused_words IdUsed

-- ---- refusals before the teller is called

abbrev pub account_fault : ℕ → ℕ → Option DeskFault
account_fault accounts account = if nat_lt account accounts then None else Some NoAccount

-- the payee of a payee and an amount exists
abbrev pub is_account : ℕ → ℕ × ℕ → Bool
is_account accounts pair = nat_lt pair.0 accounts

-- nothing is paid, or the member's own account
abbrev pub is_void : ℕ → ℕ × ℕ → Bool
is_void own pair = (pair.1 == 0) || (pair.0 == own)

-- All payees are tested before any amount.
abbrev pub pay_fault : ℕ → ℕ → List (ℕ × ℕ) → Option DeskFault
pay_fault accounts own pairs =
    if list_all (is_account accounts) pairs
    then (if list_any (is_void own) pairs then Some ZeroOrSelf else None)
    else Some NoAccount

-- ---- answers

-- the words of a refusal, and nothing changes
pub record IsRefused {T : Type 0} (fault : DeskFault) (old : Desk T) (text : List ℕ) (new : Desk T)
    : Type 0 where
  pub words : text ≡ refused_words fault
  pub same : new ≡ old

-- a refusal if there is one, and otherwise this
abbrev pub Unless : {T : Type 0} → Option DeskFault → Desk T → List ℕ → Desk T → Type 0 → Type 0
Unless (Some fault) old text new Otherwise = IsRefused fault old text new
Unless None old text new Otherwise = Otherwise

-- The teller is queried for an account's state, and the words are those of its reply. Only the
-- teller changes.
pub record TellsBalance {T : Type 0} (says : T → Exchange → T → Type 0) (account : ℕ)
    (old : Desk T) (text : List ℕ) (new : Desk T) : Type 0 where
  pub outcome : Result Told QueryFault
  pub replied : Queries says old.teller account outcome new.teller
  pub told : text ≡ balance_or_refused account outcome
  pub same : new ≡ record old { teller = new.teller }

-- The teller gets a question, and the words are those of its answer. Only the teller changes.
pub record TellsAnswer {T A : Type 0} (says : T → Exchange → T → Type 0) (asks : A → Reading)
    (words : A → List ℕ) (old : Desk T) (text : List ℕ) (new : Desk T) : Type 0 where
  pub outcome : Result A ReadFault
  pub replied : AsksQuestion says old.teller asks outcome new.teller
  pub told : text ≡ read_or_refused words outcome
  pub same : new ≡ record old { teller = new.teller }

-- The teller is called to broadcast a value, which is kept under its id unless it is refused.
pub record Broadcasts {T : Type 0} (says : T → Exchange → T → Type 0) (id : ℕ) (value : List ℕ)
    (old : Desk T) (text : List ℕ) (new : Desk T) : Type 0 where
  pub outcome : Result ℕ TellerFault
  pub replied : Asks says old.teller id value outcome new.teller
  pub told : text ≡ asked_or_refused id outcome
  pub kept : new.kept ≡ kept_after old.kept id value outcome
  pub same : new ≡ record old { teller = new.teller; kept = new.kept }

-- the words of what is kept, and nothing changes
pub record IsKeptAnswer {T : Type 0} (kept : Kept) (id : ℕ) (value : Option (List ℕ))
    (old : Desk T) (text : List ℕ) (new : Desk T) : Type 0 where
  pub words : text ≡ kept_words kept id value
  pub same : new ≡ old

abbrev pub AnswersPay :
    {T : Type 0} → (T → Exchange → T → Type 0) → Option Kept → Order → Desk T → List ℕ
    → Desk T → Type 0
AnswersPay says (Some kept) order old text new =
    IsKeptAnswer kept order.id (if_named order.payments (value_of_payments order.payments))
    old text new
AnswersPay says None order old text new =
    Unless (pay_fault old.accounts old.own (pairs_of order.payments)) old text new
    (Broadcasts says order.id (value_of_payments order.payments) old text new)

-- A note names nobody and no amount, so nothing refuses it before the teller is called.
abbrev pub AnswersNote :
    {T : Type 0} → (T → Exchange → T → Type 0) → Option Kept → ℕ → List ℕ → Desk T → List ℕ
    → Desk T → Type 0
AnswersNote says (Some kept) id note old text new =
    IsKeptAnswer kept id (Some (note_value note)) old text new
AnswersNote says None id note old text new = Broadcasts says id (note_value note) old text new

-- an answer about an account, if the account exists
abbrev pub AnswersAbout :
    {T A : Type 0} → (T → Exchange → T → Type 0) → ℕ → (A → Reading) → (A → List ℕ) → Desk T
    → List ℕ → Desk T → Type 0
AnswersAbout says account asks words old text new =
    Unless (account_fault old.accounts account) old text new
    (TellsAnswer says asks words old text new)

-- The answer to a command, and to a line that is none. `says` is what a call does to the teller.
-- page: `AnswersCommand`: the answer to a desk's command, with the desk after it
abbrev pub AnswersCommand :
    {T : Type 0} → (T → Exchange → T → Type 0) → Option Command → Desk T → List ℕ → Desk T → Type 0
AnswersCommand says None old text new = IsRefused BadLine old text new
AnswersCommand says (Some (Pay order)) old text new =
    AnswersPay says (kept_under order.id old.kept) order old text new
AnswersCommand says (Some (Note id note)) old text new =
    AnswersNote says (kept_under id old.kept) id note old text new
AnswersCommand says (Some (Balance account)) old text new =
    Unless (account_fault old.accounts account) old text new
    (TellsBalance says account old text new)
AnswersCommand says (Some (State owner seq)) old text new =
    AnswersAbout says owner (reading.State owner seq) (if_there (state_words owner seq))
    old text new
AnswersCommand says (Some (Statement account)) old text new =
    AnswersAbout says account (reading.Statement account) (if_there (stated_words account))
    old text new
AnswersCommand says (Some (Entries account from)) old text new =
    AnswersAbout says account (reading.Entries account from) (if_there (settled_words account))
    old text new
AnswersCommand says (Some (Waiting account)) old text new =
    AnswersAbout says account (reading.Waiting account) (if_there (waiting_words account))
    old text new
AnswersCommand says (Some Front) old text new =
    TellsAnswer says reading.Fronts front_words old text new

-- ---- memory

-- the teller is unchanged, or was called once for what reads at length
abbrev pub OnlyRead : {T : Type 0} → (T → Exchange → T → Type 0) → T → T → Type 0
OnlyRead says old new =
    (new ≡ old) ⊎ ((said : Exchange) × (reads_at_length said ≡ true) × says old said new)

-- If memory ran out nothing changed, except that the teller may have been read at length.
pub record GaveUp {T : Type 0} (says : T → Exchange → T → Type 0) (old new : Desk T)
    : Type 0 where
  pub teller : OnlyRead says old.teller new.teller
  pub same : new ≡ record old { teller = new.teller }
