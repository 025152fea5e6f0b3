-- Questions to a member with their answers, as a function of its history.
use Rattle.std.specs.Prelude.{◌≡◌, ◌↔◌, ℕ, ◌<◌, ◌≤◌, min, nat_lt, IsTrue, Option, Some, None}
use Rattle.std.specs.Prelude.{if◌then◌else◌, slice_index}
use Rattle.pay_channel.specs.History.{list_of}
use Rattle.pay_book.specs.Statement.{StatementFields, statement_of}
use Rattle.pay_member.specs.declared.member.TheConstants.{MOST_FETCHED}
use Rattle.pay_member.specs.declared.reading.Reading.{Reading}
use Rattle.pay_member.specs.declared.reading.Reading.TheVariants.{Sent, State, Statement, Entries}
use Rattle.pay_member.specs.declared.reading.Reading.TheVariants.{Waiting, Fronts, Forgetting}
use Rattle.pay_member.specs.declared.reading.Reading.TheVariants.{LastLie}
use Rattle.pay_member.specs.Group.{group_in}
use Rattle.pay_member.specs.Events.{events}
use Rattle.pay_member.specs.Book.{book_after}
use Rattle.pay_member.specs.Lies.{IsFound}
use Rattle.pay_member.specs.Member.{MemberFields}
use Rattle.pay_member.specs.Reading.{state_of, fetched_bodies, entries_shown, waiting_shown}
use Rattle.pay_member.specs.Remembering.{HasForgotten}

-- an answer about an account that exists
abbrev pub if_account : {A : Type 0} → MemberFields → ℕ → A → Option A
if_account m account answer = if nat_lt account m.genesis.members then Some answer else None

-- an account's lines and its balance
abbrev pub member_statement : MemberFields → ℕ → StatementFields
member_statement m account =
    record {
      lines = statement_of m.genesis.members
          (list_of (group_in m.genesis m.keys.own) (events m.history))
          (slice_index (book_after m.genesis m.keys.own (events m.history)).front) account;
      balance = slice_index (book_after m.genesis m.keys.own (events m.history)).balances account;
    }

-- the member gives this answer to the question; at most 16 bodies are shown at once
abbrev pub Shows : MemberFields → Reading → Type 0
Shows m (Sent from max bodies) =
    bodies ≡ fetched_bodies m.genesis m.keys.own (events m.history) from (min max MOST_FETCHED)
Shows m (State owner seq state) =
    state
    ≡ if_account m owner (state_of m.genesis m.keys.own (events m.history) owner seq)
Shows m (Statement account statement) =
    statement ≡ if_account m account (member_statement m account)
Shows m (Entries account from excerpt) =
    excerpt
    ≡ if_account m account (entries_shown m.genesis m.keys.own (events m.history) account from)
Shows m (Waiting account excerpt) =
    excerpt
    ≡ if_account m account (waiting_shown m.genesis m.keys.own (events m.history) account)
Shows m (Fronts counts) = counts ≡ (book_after m.genesis m.keys.own (events m.history)).front
Shows m (Forgetting says) =
    IsTrue says ↔ HasForgotten (group_in m.genesis m.keys.own) (events m.history)
Shows m (LastLie peer lie) =
    (peer < m.genesis.members → IsFound (events m.history) peer lie)
    × (m.genesis.members ≤ peer → lie ≡ None)

-- the account, if there is one, with payments that the answer reports one by one
abbrev pub account_told : Reading → Option ℕ
account_told (Sent from max bodies) = None
account_told (State owner seq state) = Some owner
account_told (Statement account statement) = None
account_told (Entries account from excerpt) = Some account
account_told (Waiting account excerpt) = Some account
account_told (Fronts counts) = None
account_told (Forgetting says) = None
account_told (LastLie peer lie) = None
