-- Receipts one after the other, as a judge takes them that replays the history beside them.
use Rattle.std.specs.Prelude.{◌≡◌, ℕ, ◌≤◌, List, [], ◌∷◌, take, length, slice_get, slice_index}
use Rattle.std.specs.Prelude.{Some, ⊤}
use Rattle.std.specs.List.{All}
use Rattle.pay_member.specs.Member.{MemberFields}
use Rattle.pay_node.specs.Receipts.{ReceiptFields}
use Rattle.pay_node.specs.Receipts.{IsConsistent, entries_after}
use Rattle.pay_node.specs.Seats.{SeatFields}

-- a receipt is consistent, and saw at least `least` entries
pub record IsNextConsistent (m : MemberFields) (stamp least : ℕ) (r : ReceiptFields) : Type 0 where
  pub ahead : least ≤ r.seen
  pub is : IsConsistent m stamp r.seen r.call

-- all receipts are consistent, each after what the one before it left
abbrev pub AreConsistent : MemberFields → ℕ → ℕ → List ReceiptFields → Type 0
AreConsistent m stamp least [] = ⊤
AreConsistent m stamp least (r ∷ rs) =
    IsNextConsistent m stamp least r × AreConsistent m stamp (entries_after r) rs

-- ---- all seats at once

-- the first receipts of a seat are consistent
abbrev pub FirstConsistent : MemberFields → SeatFields → ℕ → Type 0
FirstConsistent m seat count =
    All (λ r. IsConsistent m seat.stamp r.seen r.call) (take count seat.receipts)

-- for each seat, as many receipts as its count says are consistent
abbrev pub CountedConsistent : MemberFields → List SeatFields → List ℕ → Type 0
CountedConsistent m seats counts =
    (k : ℕ) (seat : SeatFields) → slice_get seats k ≡ Some seat
    → FirstConsistent m seat (slice_index counts k)

-- the counts are those of all receipts
abbrev pub AreAllCounted : List SeatFields → List ℕ → Type 0
AreAllCounted seats counts =
    (k : ℕ) (seat : SeatFields) → slice_get seats k ≡ Some seat
    → slice_index counts k ≡ length seat.receipts

abbrev pub EachConsistent : MemberFields → SeatFields → Type 0
EachConsistent m seat = All (λ r. IsConsistent m seat.stamp r.seen r.call) seat.receipts
