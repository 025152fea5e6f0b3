-- A member's stored history as its channel sees it: the events that it accepted, without queries.
use Rattle.std.specs.Prelude.{List, Option, Some, None}
use Rattle.std.specs.List.{filter_map}
use Rattle.pay_channel.specs.History as channel
use Rattle.pay_member.specs.declared.event.Event.{Event}
use Rattle.pay_member.specs.declared.event.Event.TheVariants.{Ask, Taken, Query}
use Rattle.pay_member.specs.declared.event.HistoryEntry.{HistoryEntry}

-- what an event is to the channel: a value of its own, a body from another member, or nothing for a
-- query
abbrev pub channel_event : Event → Option channel.Event
channel_event (Ask v) = Some (channel.Ask v)
channel_event (Taken c) = Some (channel.From c.frame.from c.frame.body)
channel_event (Query a) = None

unfoldable pub events : List HistoryEntry → List channel.Event
events history = filter_map (λ e. channel_event e.event) history
