-- Statements about the sent list. Each is proved as a public law.
use Rattle.std.specs.Prelude.{◌≡◌, ◌≢◌, ℕ, ◌<◌, ◌↔◌, Bool, true, false, ◌&&◌, ◌==◌, List, [], ◌∷◌}
use Rattle.std.specs.Prelude.{◌++◌, map, length, slice_get, Some, All, Contains}
use Rattle.std.specs.List.{filter}
use Rattle.std.specs.Option.{option_to_list}
use Rattle.pay_frame.specs.declared.body.Kind.{Kind}
use Rattle.pay_frame.specs.declared.body.Kind.TheVariants.{Send, Echo, Ready, Want}
use Rattle.pay_frame.specs.Frame.{BodyFields}
use Rattle.pay_echo.specs.Broadcast.{Group, echoed, readied}
use Rattle.pay_channel.specs.Prefix.{IsPrefix}
use Rattle.pay_channel.specs.History.{Event, From, IsEvent, asks, votes, body_of, says, out}
use Rattle.pay_channel.specs.Asked.{ask_of, asked_values, is_send_kind, sends_in, sends_of}

abbrev pub NothingSentAtFirst : Type 0
NothingSentAtFirst = (g : Group) → out g [] ≡ []

-- one more event
abbrev pub OutByOneMore : Type 0
OutByOneMore =
    (g : Group) (history : List Event) (e : Event)
    → out g (history ++ e ∷ []) ≡ out g history ++ says g history e

-- the sent list grows only at its end
abbrev pub OutGrows : Type 0
OutGrows =
    (g : Group) (history more : List Event) → IsPrefix (out g history) (out g (history ++ more))

-- ---- the bodies in the sent list about one broadcast

abbrev pub is_echo : Kind → Bool
is_echo Send = false
is_echo Echo = true
is_echo Ready = false
is_echo Want = false

abbrev pub is_ready_kind : Kind → Bool
is_ready_kind Send = false
is_ready_kind Echo = false
is_ready_kind Ready = true
is_ready_kind Want = false

-- a body of this kind about the broadcast s of account a
abbrev pub is_said : (Kind → Bool) → ℕ → ℕ → BodyFields → Bool
is_said of_kind a s body = of_kind body.kind && (body.owner == a && body.seq == s)

-- one ECHO exactly if a value is echoed, with that value
abbrev pub EchoInOut : Type 0
EchoInOut =
    (g : Group) (history : List Event) (a s : ℕ)
    → filter (is_said is_echo a s) (out g history)
    ≡ map (body_of Echo a s) (option_to_list (echoed (votes g.own a s history)))

-- one READY exactly if a value is readied, with that value
abbrev pub ReadyInOut : Type 0
ReadyInOut =
    (g : Group) (history : List Event) (a s : ℕ)
    → filter (is_said is_ready_kind a s) (out g history)
    ≡ map (body_of Ready a s) (option_to_list (readied g (votes g.own a s history)))

-- the statement as membership: the bodies there are what was echoed and readied
abbrev pub EchoIsSaid : Type 0
EchoIsSaid =
    (g : Group) (history : List Event) (a s : ℕ) (v : List ℕ)
    → Contains (out g history) (body_of Echo a s v) ↔ (echoed (votes g.own a s history) ≡ Some v)

abbrev pub ReadyIsSaid : Type 0
ReadyIsSaid =
    (g : Group) (history : List Event) (a s : ℕ) (v : List ℕ)
    → Contains (out g history) (body_of Ready a s v)
    ↔ (readied g (votes g.own a s history) ≡ Some v)

-- what a member sends may come to any other member of its group: it is about a member, and no WANT
abbrev pub SentMayCome : Type 0
SentMayCome =
    (g h : Group) (history : List Event) → g.own < g.members → h.members ≡ g.members → g.own ≢ h.own
    → All (IsEvent g) history → All (λ body. IsEvent h (From g.own body)) (out g history)

-- ---- the SENDs of the sent list are the submitted values

abbrev pub NothingAskedAtFirst : Type 0
NothingAskedAtFirst = asked_values [] ≡ []

abbrev pub AskedByOneMore : Type 0
AskedByOneMore =
    (history : List Event) (e : Event)
    → asked_values (history ++ e ∷ []) ≡ asked_values history ++ option_to_list (ask_of e)

abbrev pub AskedGrows : Type 0
AskedGrows =
    (history more : List Event)
    → asked_values (history ++ more) ≡ asked_values history ++ asked_values more

abbrev pub AsksAreCounted : Type 0
AsksAreCounted = (history : List Event) → asks history ≡ length (asked_values history)

abbrev pub SendsAreAsks : Type 0
SendsAreAsks =
    (g : Group) (history : List Event)
    → sends_in (out g history) ≡ sends_of g.own (asked_values history)

-- one SEND about a number of the member's own exactly if a value was submitted under that number,
-- with that value
abbrev pub SendInOut : Type 0
SendInOut =
    (g : Group) (history : List Event) (s : ℕ)
    → filter (is_said is_send_kind g.own s) (out g history)
    ≡ map (body_of Send g.own s) (option_to_list (slice_get (asked_values history) s))

-- a SEND stands there exactly if it is about the member's own account, with the value submitted
-- under its number
abbrev pub SentIsAsked : Type 0
SentIsAsked =
    (g : Group) (history : List Event) (a s : ℕ) (v : List ℕ)
    → Contains (out g history) (body_of Send a s v)
    ↔ ((a ≡ g.own) × (slice_get (asked_values history) s ≡ Some v))

-- in the member's own broadcasts the submitted values are echoed, whatever the others send
abbrev pub OwnEchoIsAsk : Type 0
OwnEchoIsAsk =
    (g : Group) (history : List Event) (s : ℕ) → All (IsEvent g) history
    → echoed (votes g.own g.own s history) ≡ slice_get (asked_values history) s
