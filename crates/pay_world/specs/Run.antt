-- A list of events of a group, and the world after them.
use Rattle.std.specs.Prelude.{◌≡◌, ℕ, ◌-◌, ◌^◌, min, List, length, take, slice_get, Option, Some}
use Rattle.std.specs.Prelude.{None, if◌then◌else◌}
use Rattle.std.specs.List.{filter_map}
use Rattle.pay_frame.specs.Stream.{IsBytes}
use Rattle.pay_channel.specs.History.{Event}
use Rattle.pay_link.specs.Genesis.{GenesisFields}
use Rattle.pay_link.specs.Checked.{bytes_of}
use Rattle.pay_link.specs.Keys.{KeyFields}
use Rattle.pay_member.specs.declared.event.Event.{Event as MemberEvent}
use Rattle.pay_member.specs.declared.event.Event.TheVariants as entry
use Rattle.pay_member.specs.declared.event.HistoryEntry.{HistoryEntry}
use Rattle.pay_member.specs.Events as stored
use Rattle.pay_member.specs.Legal.{Legal}
use Rattle.pay_world.specs.declared.event.WorldEvent.{WorldEvent}
use Rattle.pay_world.specs.declared.event.WorldEvent.TheVariants.{Ask, Bring}
use Rattle.pay_world.specs.Actions.{Action, history_by}
use Rattle.pay_world.specs.Genuine.{IsGenuine, AreGenuine}
use Rattle.pay_world.specs.Liars.{LiarFields, is_listed, setting_of}
use Rattle.pay_world.specs.World.{WorldFields, history_in, keys_in}
use Rattle.pay_world.specs.Answer.{action_of, actions_of}

-- the keys of the correct members
abbrev pub correct_keys : List KeyFields → LiarFields → ℕ → Option KeyFields
correct_keys keys l i = if is_listed l.liars i then None else slice_get keys i

-- the events as actions at the correct members
abbrev pub actions_by : List KeyFields → LiarFields → List WorldEvent → List Action
actions_by keys l events = actions_of (correct_keys keys l) events

-- The history of a correct member by these events: what it accepted of them, from the left.
abbrev pub history_of : List KeyFields → LiarFields → List WorldEvent → ℕ → List Event
history_of keys l events i = history_by (setting_of l) (actions_by keys l events) i

-- Event k is a forged frame, after genuine ones: it is the first that is forged.
pub record IsFirstForged (keys : List KeyFields) (l : LiarFields)
    (events : List WorldEvent) (k : ℕ) : Type 0 where
  pub before : AreGenuine (setting_of l) (actions_by keys l (take k events))
  pub event : WorldEvent
  pub place : slice_get events k ≡ Some event
  pub action : Action
  pub is : action_of (correct_keys keys l) event ≡ Some action
  pub forged : ¬ (IsGenuine (setting_of l) (actions_by keys l (take k events)) action)

-- The world of this group after these events, without a forged one: it has the histories by them.
pub record IsWorldAfter (g : GenesisFields) (keys : List KeyFields) (l : LiarFields)
    (events : List WorldEvent) (w : WorldFields) : Type 0 where
  pub genesis : w.genesis ≡ g
  pub liars : w.liars ≡ l
  pub known : (i : ℕ) → keys_in w i ≡ correct_keys keys l i
  pub histories : (i : ℕ) → history_in w i ≡ history_of keys l events i
  pub genuine : AreGenuine (setting_of l) (actions_by keys l events)
  pub count : w.answered ≡ min (length events) (2 ^ 64 - 1)

-- ---- stored histories

-- The member with these keys can have a stored history with these events.
pub record MayHaveTaken (g : GenesisFields) (k : KeyFields) (taken : List Event) : Type 0 where
  pub history : List HistoryEntry
  pub legal : Legal g k history
  pub took : stored.events history ≡ taken

-- what an event of member i's history is to the group: a frame's bytes reach that member, and a
-- query is nothing
abbrev pub event_at : ℕ → MemberEvent → Option WorldEvent
event_at i (entry.Ask v) = Some (Ask i v)
event_at i (entry.Taken c) = Some (Bring i (bytes_of c))
event_at i (entry.Query a) = None

-- The submitted values and the frames in member i's history, as events of the group, in their
-- order.
unfoldable pub events_of : ℕ → List HistoryEntry → List WorldEvent
events_of i history = filter_map (λ e. event_at i e.event) history

-- the submitted value, or the received bytes, are bytes
abbrev pub IsOfBytes : WorldEvent → Type 0
IsOfBytes (Ask i v) = IsBytes v
IsOfBytes (Bring i bytes) = IsBytes bytes
