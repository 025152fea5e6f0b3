-- What a member accepted from another member: the part of the history that came over one link.
use Rattle.std.specs.Prelude.{ℕ, Bool, false, ◌==◌, if◌then◌else◌, List, length, Option, Some, None}
use Rattle.std.specs.List.{filter_map}
use Rattle.pay_frame.specs.Frame.{BodyFields}
use Rattle.pay_channel.specs.History.{Event, Ask, From}

abbrev pub is_from : ℕ → Event → Bool
is_from p (Ask v) = false
is_from p (From q body) = q == p

-- the body, if the event came from p
abbrev pub body_from : ℕ → Event → Option BodyFields
body_from p (Ask v) = None
body_from p (From q body) = if q == p then Some body else None

-- The bodies accepted from p, in order. A body's number on the link is its place, counted from 0.
unfoldable pub taken_bodies : ℕ → List Event → List BodyFields
taken_bodies p history = filter_map (body_from p) history

-- the number of the next body from p
abbrev pub next : ℕ → List Event → ℕ
next p history = length (taken_bodies p history)
