-- What happens to the members of a group, and each member's history after it.
use Rattle.std.specs.Prelude.{ℕ, nat_le, nat_lt, Bool, true, false, not, ◌&&◌, ◌==◌, if◌then◌else◌}
use Rattle.std.specs.Prelude.{List, [], ◌∷◌, ◌++◌, length, Option, Some, None}
use Rattle.std.specs.List.{filter_map}
use Rattle.pay_frame.specs.declared.body.Kind.{Kind}
use Rattle.pay_frame.specs.declared.body.Kind.TheVariants.{Send, Echo, Ready, Want}
use Rattle.pay_frame.specs.declared.limits.TheConstants.{GREATEST_VALUE, SEQS}
use Rattle.pay_frame.specs.Frame.{BodyFields}
use Rattle.pay_channel.specs.History.{Event, Ask, From, asks}
use Rattle.pay_channel.specs.Taken.{next}
use Rattle.pay_member.specs.declared.event.Event.{Event as MemberEvent}
use Rattle.pay_member.specs.declared.event.Event.TheVariants as entry
use Rattle.pay_member.specs.declared.event.HistoryEntry.{HistoryEntry}
use Rattle.pay_world.specs.Setting.{Setting}

-- A member submits a value, or receives a frame that it authenticates: its sender, its number and
-- its body. Other bytes are no action, and neither is a WANT.
pub data Action : Type 0 where
  Asks : ℕ → List ℕ → Action
  Brings : ℕ → ℕ → ℕ → BodyFields → Action

-- the member that an action happens to
abbrev pub member_of : Action → ℕ
member_of (Asks k v) = k
member_of (Brings k from number body) = k

-- the event of an action in that member's history, if the member accepts it
abbrev pub event_of : Action → Event
event_of (Asks k v) = Ask v
event_of (Brings k from number body) = From from body

abbrev pub is_want : Kind → Bool
is_want Send = false
is_want Echo = false
is_want Ready = false
is_want Want = true

-- What holds of every frame that member k authenticates: it is from another member, and about a
-- member. It is tested here and isn't required of actions, so that all statements about actions
-- hold for every list of them.
abbrev pub may_come : Setting → ℕ → ℕ → BodyFields → Bool
may_come w k from body =
    nat_lt from w.members && not (from == k) && nat_lt body.owner w.members
    && not (is_want body.kind)

-- Whether a member with this history accepts an action: a value within the limits, or a frame with
-- the number that is next from its sender.
-- page: `counts`, `history_by`: whether a member accepts an action; each member's history by a list
--   of actions
abbrev pub counts : Setting → List Event → Action → Bool
counts w history (Asks k v) = nat_le (length v) GREATEST_VALUE && nat_lt (asks history) SEQS
counts w history (Brings k from number body) = may_come w k from body && number == next from history

-- what an action adds to the history of member i
abbrev pub adds : Setting → ℕ → List Event → Action → List Event
adds w i history d = if member_of d == i && counts w history d then event_of d ∷ [] else []

abbrev pub history_after : Setting → ℕ → List Event → List Action → List Event
history_after w i history [] = history
history_after w i history (d ∷ actions) = history_after w i (history ++ adds w i history d) actions

-- The history of each member by these actions: those of them that it accepted, in order. It doesn't
-- depend on another member's history.
unfoldable pub history_by : Setting → List Action → ℕ → List Event
history_by w actions i = history_after w i [] actions

-- ---- a stored history as actions

-- an event of member k's history as an action: a query is none
abbrev pub action_at : ℕ → MemberEvent → Option Action
action_at k (entry.Ask v) = Some (Asks k v)
action_at k (entry.Taken c) = Some (Brings k c.frame.from c.frame.number c.frame.body)
action_at k (entry.Query a) = None

-- The submitted values and the frames in member k's history, as actions at it, in their order.
unfoldable pub actions_in : ℕ → List HistoryEntry → List Action
actions_in k history = filter_map (λ e. action_at k e.event) history
