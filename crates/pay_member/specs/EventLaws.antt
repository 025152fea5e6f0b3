-- Statements about the events of a stored history. Each is proved as a public law.
use Rattle.std.specs.Prelude.{◌≡◌, List, [], ◌∷◌, ◌++◌}
use Rattle.std.specs.Option.{option_to_list}
use Rattle.pay_member.specs.declared.event.HistoryEntry.{HistoryEntry}
use Rattle.pay_member.specs.Events.{channel_event, events}

abbrev pub NoEventsAtFirst : Type 0
NoEventsAtFirst = events [] ≡ []

-- one more entry
abbrev pub EventsByOneMore : Type 0
EventsByOneMore =
    (history : List HistoryEntry) (x : HistoryEntry)
    → events (history ++ x ∷ []) ≡ events history ++ option_to_list (channel_event x.event)
