-- A channel with the ledger of its lists.
use Rattle.std.specs.Prelude.{◌≡◌, ℕ, ◌+◌, ◌<◌, ◌≤◌, Bool, true, false, List, length, slice_get}
use Rattle.std.specs.Prelude.{sum}
use Rattle.pay_frame.specs.declared.limits.TheConstants.{MOST_MEMBERS}
use Rattle.pay_channel.specs.History as channel
use Rattle.pay_channel.specs.State.{State, IsStateBy, channel_lists, meaning_at}
use Rattle.pay_channel.specs.Applied.{IsAsBefore, Takes, IsApplied}
use Rattle.pay_link.specs.Genesis.{GenesisFields}
use Rattle.pay_book.specs.Book.{Standing, IsSettled}
use Rattle.pay_member.specs.declared.event.Took.{Took}
use Rattle.pay_member.specs.Group.{group_in}

pub record LedgerFields : Type 0 where
  pub channel : State
  pub book : Standing
  pub has_forgotten : Bool

-- there is an account for each member, the members aren't too many, and all is settled that the
-- lists allow
pub record IsLedger (l : LedgerFields) : Type 0 where
  pub few : l.channel.group.members ≤ MOST_MEMBERS
  pub accounts : length l.book.opening ≡ l.channel.group.members
  pub settled : IsSettled (channel_lists l.channel) l.book

-- The ledger is what these events make of the ledger of member `own` of this genesis.
pub record Tracks (g : GenesisFields) (own : ℕ) (events : List channel.Event) (l : LedgerFields)
    : Type 0 where
  pub group : l.channel.group ≡ group_in g own
  pub follows : IsStateBy l.channel events
  pub opening : l.book.opening ≡ g.opening
  pub sound : IsLedger l

-- The value at a place of an account's list is the one echoed in that broadcast. In the member's
-- own broadcasts it is the submitted one.
abbrev pub IsListedAsEchoed : State → ℕ → ℕ → Type 0
IsListedAsEchoed c a k = (meaning_at c a k).echoed ≡ slice_get (channel_lists c a) k

-- Whether a value of account a's list isn't the one echoed, before and after the list grew from a
-- place on. What is known stays known. It becomes known by a value that isn't the one echoed.
pub record IsNoticed (c : State) (a from : ℕ) (before after : Bool) : Type 0 where
  pub still : before ≡ true → after ≡ true
  pub none :
      after ≡ false → (k : ℕ) → from ≤ k → k < length (channel_lists c a) → IsListedAsEchoed c a k
  pub some :
      before ≡ false → after ≡ true
      → (k : ℕ) × (k < length (channel_lists c a)) × (¬ (IsListedAsEchoed c a k))

-- The channel accepted the event. `took` has the channel's answer and the count of entries that
-- settled.
pub record Grows (old new : LedgerFields) (e : channel.Event) (took : Took) : Type 0 where
  pub group : new.channel.group ≡ old.channel.group
  pub opening : new.book.opening ≡ old.book.opening
  pub sound : IsLedger new
  pub takes : Takes old.channel new.channel e
  pub grown : ℕ
  pub applied :
      IsApplied old.channel new.channel e
      (record { echo = took.echo; ready = took.ready; deliver = took.deliver; grown = grown })
  pub settled : sum old.book.front + took.settled ≡ sum new.book.front
  pub noticed :
      IsNoticed new.channel new.channel.group.own
      (length (channel_lists old.channel old.channel.group.own))
      old.has_forgotten new.has_forgotten

-- nothing visible changed
pub record IsSameLedger (old new : LedgerFields) : Type 0 where
  pub channel : IsAsBefore old.channel new.channel
  pub book : new.book ≡ old.book
  pub has_forgotten : new.has_forgotten ≡ old.has_forgotten
  pub sound : IsLedger new
