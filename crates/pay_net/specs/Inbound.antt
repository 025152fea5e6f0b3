-- The owners of the inbound connections, oldest first, which of them are current, and which is
-- closed for a newcomer.
use Rattle.std.specs.Prelude.{◌==◌, ◌&&◌, ℕ, ◌+◌, ◌-◌, ◌^◌, ◌≤◌, Bool, true, false, cond, List}
use Rattle.std.specs.Prelude.{Option, None, Some, min, nat_lt, option_and_then, count_by, position}
use Rattle.std.specs.Prelude.{remove}
use Rattle.std.specs.Prelude.{slice_get, slice_set}
use Rattle.std.specs.List.{list_any}
use Rattle.std.specs.Option.{option_map, option_map_or}
use Rattle.pay_net.specs.declared.inbound.Inbound.{Inbound}
use Rattle.pay_net.specs.declared.inbound.Owner.{Owner}
use Rattle.pay_net.specs.declared.inbound.Owner.TheVariants.{Nobody, Peer, Current}

-- no WANT of the connection was authenticated
abbrev pub is_nobody : Owner → Bool
is_nobody Nobody = true
is_nobody (Peer p) = false
is_nobody (Current p) = false

-- the connection is this peer's, and not its current one
abbrev pub is_waiting_of : ℕ → Owner → Bool
is_waiting_of peer Nobody = false
is_waiting_of peer (Peer p) = p == peer
is_waiting_of peer (Current p) = false

-- the connection is this peer's current one
abbrev pub is_current_of : ℕ → Owner → Bool
is_current_of peer Nobody = false
is_current_of peer (Peer p) = false
is_current_of peer (Current p) = p == peer

-- both are nobody's, or both wait as connections of one peer
abbrev pub waits_beside : Owner → Owner → Bool
waits_beside Nobody other = is_nobody other
waits_beside (Peer p) other = is_waiting_of p other
waits_beside (Current p) other = false

-- the number of the place of a connection
abbrev pub stands_at : ℕ → Inbound → Bool
stands_at place g = g.place == place

-- each peer has at most one current connection
abbrev pub IsCurrentOnce : List Inbound → Type 0
IsCurrentOnce inbound = (peer : ℕ) → count_by (λ g. is_current_of peer g.owner) inbound ≤ 1

-- ---- which connection is closed

-- how many wait beside this connection, including itself
abbrev pub waiting_beside : List Inbound → Inbound → ℕ
waiting_beside inbound g = count_by (λ h. waits_beside g.owner h.owner) inbound

abbrev pub has_another : List Inbound → Inbound → Bool
has_another inbound g = nat_lt 1 (waiting_beside inbound g)

-- whether another one waits beside the connection at this place
abbrev pub has_another_at : ℕ → List Inbound → Bool
has_another_at place inbound = list_any (λ g. stands_at place g && has_another inbound g) inbound

-- For a newcomer, the oldest connection with another one waiting beside it is closed. So neither a
-- current one is closed, nor the only waiting one of a peer, nor the only one of nobody.
abbrev pub who_makes_place : List Inbound → Option ℕ
who_makes_place inbound = position (has_another inbound) inbound

-- the place of the connection at an index
abbrev pub place_at : Option ℕ → List Inbound → Option ℕ
place_at at inbound = option_and_then (λ i. option_map (λ g. g.place) (slice_get inbound i)) at

-- the list without the connection at an index
abbrev pub without : Option ℕ → List Inbound → List Inbound
without at inbound = option_map_or (remove inbound) at inbound

-- ---- what a WANT changes

-- The open connections, and for each peer the greatest number that it requested.
pub record InboundState : Type 0 where
  pub inbound : List Inbound
  pub greatest : List (Option ℕ)

-- how many frames a peer requested: those up to the one of the greatest number
abbrev pub frames_up_to : Option (Option ℕ) → ℕ
frames_up_to None = 0
frames_up_to (Some None) = 0
frames_up_to (Some (Some number)) = min (number + 1) (2 ^ 64 - 1)

abbrev pub want_count : ℕ → List (Option ℕ) → ℕ
want_count peer greatest = frames_up_to (slice_get greatest peer)

-- the number is above all that this peer requested before
abbrev pub is_new : ℕ → ℕ → List (Option ℕ) → Bool
is_new peer number greatest =
    option_map_or (λ most. option_map_or (λ n. nat_lt n number) most true)
    (slice_get greatest peer) false

-- the connection there has this owner
abbrev pub list_with_owner : Option ℕ → Owner → List Inbound → List Inbound
list_with_owner at owner inbound =
    option_map_or
    (λ i. option_map_or (λ g. slice_set inbound i (record g { owner = owner }))
    (slice_get inbound i) inbound)
    at inbound

-- the connection at this place is this peer's, if it was nobody's
abbrev pub list_with_claim : ℕ → ℕ → List Inbound → List Inbound
list_with_claim place peer inbound =
    list_with_owner (position (λ g. is_nobody g.owner && stands_at place g) inbound)
    (Peer peer) inbound

-- this peer has no current connection
abbrev pub list_without_current : ℕ → List Inbound → List Inbound
list_without_current peer inbound =
    list_with_owner (position (λ g. is_current_of peer g.owner) inbound) (Peer peer) inbound

-- the connection at this place is this peer's current one
abbrev pub list_with_current : ℕ → ℕ → List Inbound → List Inbound
list_with_current place peer inbound =
    list_with_owner (position (stands_at place) (list_without_current peer inbound))
    (Current peer) (list_without_current peer inbound)

-- A peer's WANT at this place requests this number. If the number is new, the connection is the
-- peer's current one. Otherwise it is the peer's, if it was nobody's, and nothing else changes.
abbrev pub standing_after : ℕ → ℕ → ℕ → InboundState → InboundState
standing_after place peer number s =
    cond (is_new peer number s.greatest)
    (record {
      inbound = list_with_current place peer s.inbound;
      greatest = slice_set s.greatest peer (Some number);
    })
    (record { inbound = list_with_claim place peer s.inbound; greatest = s.greatest })
