-- Histories that a member can have.
use Rattle.std.specs.Prelude.{◌≡◌, ℕ, ◌≤◌, List, ◌∷◌, ◌++◌, length, None, ⊤}
use Rattle.pay_frame.specs.declared.limits.TheConstants.{GREATEST_VALUE}
use Rattle.pay_frame.specs.Stream.{IsBytes}
use Rattle.pay_channel.specs.History as channel
use Rattle.pay_link.specs.Genesis.{GenesisFields}
use Rattle.pay_link.specs.Keys.{KeyFields}
use Rattle.pay_link.specs.Checked.{IsChecked}
use Rattle.pay_member.specs.declared.event.Event.{Event}
use Rattle.pay_member.specs.declared.event.Event.TheVariants.{Ask, Taken, Query}
use Rattle.pay_member.specs.declared.event.HistoryEntry.{HistoryEntry}
use Rattle.pay_member.specs.Events.{events}
use Rattle.pay_member.specs.Reply.{reply_to}
use Rattle.pay_member.specs.Refusal.{refusal}

-- values in it are bytes, and a frame is within its limits, has the right tag under its key, and is
-- no WANT
abbrev pub IsStorable : Event → Type 0
IsStorable (Ask v) = IsBytes v
IsStorable (Taken c) = IsChecked c × IsBytes c.frame.body.value
IsStorable (Query a) = ⊤

-- after these events nothing refuses the entry's event, and its reply is the one owed
pub record IsOwed (g : GenesisFields) (k : KeyFields) (before : List channel.Event)
    (e : HistoryEntry) : Type 0 where
  pub kept : IsStorable e.event
  pub taken : refusal g k before e.event ≡ None
  pub reply : e.reply ≡ reply_to g k.own before e.event

-- each entry may stand after the entries before it
-- page: `Legal`: nothing refuses an entry's event after the entries before it, its reply is the one
--   owed, and its frame has the right authentication tag and is no WANT
pub record Legal (g : GenesisFields) (k : KeyFields) (history : List HistoryEntry) : Type 0 where
  pub each :
      (before : List HistoryEntry) (e : HistoryEntry) (after : List HistoryEntry)
      → history ≡ before ++ e ∷ after → IsOwed g k (events before) e

-- bytes that fit a frame
pub record IsValue (v : List ℕ) : Type 0 where
  pub bytes : IsBytes v
  pub size : length v ≤ GREATEST_VALUE
