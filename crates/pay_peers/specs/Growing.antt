-- What workers leave at their seats.
use Rattle.std.specs.Prelude.{◌≡◌, ℕ, ◌<◌, List, length, slice_index_or}
use Rattle.std.specs.List.{All}
use Rattle.pay_member.specs.declared.event.Event.TheVariants.{Ask, Query, Taken}
use Rattle.pay_member.specs.declared.reading.Reading.{Reading}
use Rattle.pay_member.specs.declared.reading.Reading.TheVariants as reading
use Rattle.pay_node.specs.declared.receipt.Call.{Call}
use Rattle.pay_node.specs.declared.receipt.Call.TheVariants.{Handed, Read}
use Rattle.pay_node.specs.Receipts.{ReceiptFields}
use Rattle.pay_node.specs.Seats.{SeatFields, with_receipts}
use Rattle.pay_peers.specs.declared.feeding.PeerReader.{PeerReader}

-- the last lie of this peer was asked for
abbrev pub IsLieOf : ℕ → Reading → Type 0
IsLieOf peer (reading.LastLie accused lie) = accused ≡ peer
IsLieOf peer (reading.Sent from max bodies) = ⊥
IsLieOf peer (reading.State owner seq state) = ⊥
IsLieOf peer (reading.Statement account statement) = ⊥
IsLieOf peer (reading.Entries account from excerpt) = ⊥
IsLieOf peer (reading.Waiting account excerpt) = ⊥
IsLieOf peer (reading.Fronts counts) = ⊥
IsLieOf peer (reading.Forgetting says) = ⊥

-- a frame of this peer was handed in, or its last protocol violation was asked for
abbrev pub ConcernsPeer : ℕ → Call → Type 0
ConcernsPeer peer (Handed (Taken checked) answer) = checked.frame.from ≡ peer
ConcernsPeer peer (Handed (Ask value) answer) = ⊥
ConcernsPeer peer (Handed (Query account) answer) = ⊥
ConcernsPeer peer (Read reading) = IsLieOf peer reading

-- the seat with some more receipts, each of a frame or of the last protocol violation of this peer
pub record SeatGrows (peer : ℕ) (old new : SeatFields) : Type 0 where
  pub more : List ReceiptFields
  pub is : new ≡ with_receipts old more
  pub each : All (λ r. ConcernsPeer peer r.call) more

-- a peer and the seat that it is read from
abbrev pub HasGrown : ℕ × PeerReader → ℕ × PeerReader → Type 0
HasGrown old new = (new.0 ≡ old.0) × SeatGrows old.0 old.1.seat new.1.seat

-- at each place, the peer is unchanged and its seat has grown
pub record EachGrows (old new : List (ℕ × PeerReader)) : Type 0 where
  pub many : length new ≡ length old
  pub each :
      (k : ℕ) (d : ℕ × PeerReader) → k < length old
      → HasGrown (slice_index_or old k d) (slice_index_or new k d)
