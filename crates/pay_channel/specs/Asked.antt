-- The values that the member itself broadcast, and SENDs as they stand in a sent list. These values
-- are what the user hands to the channel in Cachin, Guerraoui, Rodrigues, chapter 3.
use Rattle.std.specs.Prelude.{ℕ, Bool, true, false, List, map, Option, Some, None}
use Rattle.std.specs.List.{filter, filter_map, enumerate_from}
use Rattle.pay_frame.specs.declared.body.Kind.{Kind}
use Rattle.pay_frame.specs.declared.body.Kind.TheVariants.{Send, Echo, Ready, Want}
use Rattle.pay_frame.specs.Frame.{BodyFields}
use Rattle.pay_channel.specs.History.{Event, Ask, From, body_of}

-- the value that an event broadcasts, if the event submits a value
abbrev pub ask_of : Event → Option (List ℕ)
ask_of (Ask v) = Some v
ask_of (From p body) = None

-- The values that the member broadcast, in order. A value's number is its place, counted from 0.
-- page: `asked_values`, `taken_bodies`, `next`: the values that the member submitted, by their
--   numbers; the bodies accepted from another member, in order, and their count: the book's links
unfoldable pub asked_values : List Event → List (List ℕ)
asked_values history = filter_map ask_of history

abbrev pub is_send_kind : Kind → Bool
is_send_kind Send = true
is_send_kind Echo = false
is_send_kind Ready = false
is_send_kind Want = false

-- the SENDs of a sent list, in order
abbrev pub sends_in : List BodyFields → List BodyFields
sends_in bodies = filter (λ body. is_send_kind body.kind) bodies

-- the SENDs of account a for its values, each with its place as its number
abbrev pub sends_of : ℕ → List (List ℕ) → List BodyFields
sends_of a values = map (λ x. body_of Send a x.0 x.1) (enumerate_from 0 values)
