-- How often a worker connects in a row without an authenticated frame, and how long it pauses
-- between.
use Rattle.std.specs.Prelude.{◌≡◌, ℕ, ◌-◌, ◌+◌, ◌^◌, zero, suc, nat_eq, nat_le, min, Bool, false}
use Rattle.std.specs.Prelude.{true, if◌then◌else◌, List, [], ◌∷◌, length, slice_get, Option, Some}
use Rattle.std.specs.Prelude.{None}
use Rattle.std.specs.List.{list_any}
use Rattle.std.specs.Option.{unwrap_or}
use Rattle.pay_link.specs.Keys.{IsPeer}
use Rattle.pay_member.specs.declared.ledger.Lie.{Lie}
use Rattle.pay_node.specs.Receipts.{ReceiptFields, has_entry}
use Rattle.pay_node.specs.Nodes.{FindsLie, NodeFields}
use Rattle.pay_peers.specs.declared.readers.Gain.{Gain}
use Rattle.pay_peers.specs.declared.readers.Gain.TheVariants.{Nothing, Refused, Taken}
use Rattle.pay_peers.specs.declared.backoff.Backoff.{Backoff}
use Rattle.pay_peers.specs.declared.backoff.Dials.{Dials}
use Rattle.pay_peers.specs.declared.readers.PeerEvent.{PeerEvent}
use Rattle.pay_peers.specs.declared.readers.PeerEvent.TheVariants.{GaveUp, Heard, Lied, Missed}
use Rattle.pay_peers.specs.declared.readers.PeerEvent.TheVariants.{Starved, Unopened}
use Rattle.pay_peers.specs.declared.backoff.Dials.TheVariants.{Usual, Counted, Always}

-- the result of a connection, from whether its peer made a claim, and the receipts of its frames
abbrev pub gain_by : Bool → List ReceiptFields → Gain
gain_by claimed receipts =
    if nat_eq (length receipts) 0 then (if claimed then Refused else Nothing)
    else if list_any (λ r. has_entry r.call) receipts then Taken else Refused

-- After a connection, the counts of connections in a row without an authenticated frame and without
-- an accepted one: one more, or 0 after a connection with such a frame.
abbrev pub dials_after : ℕ → ℕ
dials_after before = min (before + 1) (2 ^ 64 - 1)

abbrev pub idle_behind : ℕ → Gain → ℕ
idle_behind before Nothing = dials_after before
idle_behind before Refused = 0
idle_behind before Taken = 0

abbrev pub stale_behind : ℕ → Gain → ℕ
stale_behind before Nothing = dials_after before
stale_behind before Refused = dials_after before
stale_behind before Taken = 0

-- a connection without a result was quiet and didn't fail, if it stood for `seconds` seconds: the
-- timer of a minute may be a second early
abbrev pub is_quiet : ℕ → Bool
is_quiet seconds = nat_le 59 seconds

-- the last connection was made, after this many in a row
abbrev pub is_spent : Dials → ℕ → Bool
is_spent Usual idle = nat_le 1000 idle
is_spent (Counted count) idle = nat_le count idle
is_spent Always idle = false

-- no protocol violation of a member is known, if it is a peer
abbrev pub FindsNoLie : NodeFields → ℕ → Type 0
FindsNoLie n peer = IsPeer n.keys peer → FindsLie n peer None

-- The reason why a peer isn't connected any more, if it isn't: a protocol violation of the peer is
-- known, or the peer was connected often enough.
abbrev pub IsLastWord :
    NodeFields → ℕ → Backoff → Option Lie → Option PeerEvent → Type 0
IsLastWord n peer b known None = (is_spent b.dials b.idle ≡ false) × FindsNoLie n peer
IsLastWord n peer b known (Some GaveUp) = (is_spent b.dials b.idle ≡ true) × FindsNoLie n peer
IsLastWord n peer b known (Some (Lied lie)) = known ≡ Some lie
IsLastWord n peer b known (Some Heard) = ⊥
IsLastWord n peer b known (Some Unopened) = ⊥
IsLastWord n peer b known (Some Missed) = ⊥
IsLastWord n peer b known (Some Starved) = ⊥

-- Pauses in milliseconds that grow: each is twice the one before, and after these each is a second.
abbrev pub first_pauses : List ℕ
first_pauses = 10 ∷ 20 ∷ 40 ∷ 80 ∷ 160 ∷ 320 ∷ 640 ∷ []

-- the pause after `stale` connections in a row without something new; it is the first one if the
-- last connection had something new
abbrev pub growing : ℕ → ℕ
growing stale = unwrap_or (slice_get first_pauses (stale - 1)) 1000

-- How long a worker pauses after these counts of connections in a row without an authenticated
-- frame, and without an accepted one. A peer that sends old frames and ends each connection is
-- connected once a second, with each of the `Dials`.
abbrev pub pause_behind : Dials → ℕ → ℕ → ℕ
pause_behind Usual zero stale = growing stale
pause_behind Usual (suc idle) stale = 10
pause_behind (Counted count) idle stale = growing stale
pause_behind Always idle stale = growing stale
