-- How the seats of a node are distributed to its threads.
use Rattle.std.specs.Prelude.{◌≡◌, ℕ, List, [], ◌∷◌, ◌++◌, length, map, None}
use Rattle.std.specs.List.{All}
use Rattle.pay_node.specs.Keeping.{HasFetchedAlone}
use Rattle.pay_node.specs.Nodes.{fresh_seat}
use Rattle.pay_node.specs.Seats.{SeatFields}
use Rattle.pay_peers.specs.declared.feeding.PeerReader.{PeerReader}
use Rattle.pay_peers.specs.Window.{empty_window}
use Rattle.pay_net.specs.Running.{others_below}

abbrev pub IsFresh : SeatFields → Type 0
IsFresh seat = seat ≡ fresh_seat seat.stamp

-- one more peer has a reader, with the last seat that was left, and the one before that is for the
-- writers to it
pub record SeatsOne (peer : ℕ) (old new : List (ℕ × PeerReader)) (had left : List SeatFields)
    : Type 0 where
  pub reader : SeatFields
  pub writer : SeatFields
  pub readers :
      new ≡ old ++ (peer, record { seat = reader; window = empty_window; lie = None }) ∷ []
  pub taken : had ≡ (left ++ writer ∷ []) ++ reader ∷ []

-- the peers below a number have readers with fresh seats, and fresh seats are left
pub record AreSeated (own next : ℕ) (readers : List (ℕ × PeerReader)) (seats : List SeatFields)
    : Type 0 where
  pub peers : map (λ r. r.0) readers ≡ others_below own next
  pub fresh : All (λ r. IsFresh r.1.seat) readers
  pub left : All IsFresh seats

-- `count` more seats of writers, and only fetches were called from each
pub record BringsWriters (count : ℕ) (old new : List SeatFields) : Type 0 where
  pub more : List SeatFields
  pub many : length more ≡ count
  pub fetched : All HasFetchedAlone more
  pub is : new ≡ old ++ more
