-- Bodies with receipts that are kept, so that a body can be fetched from a seat any number of times
-- and is shown on one receipt.
use Rattle.std.specs.Prelude.{◌≡◌, ◌≢◌, ◌⊎◌, ℕ, ◌≤◌, ◌==◌, max, List, [], ◌∷◌, ◌++◌, length}
use Rattle.std.specs.Prelude.{slice_get, slice_index_or, Option, Some, None, if◌then◌else◌}
use Rattle.std.specs.List.{All}
use Rattle.pay_frame.specs.Frame.{BodyFields}
use Rattle.pay_member.specs.Legal.{Legal}
use Rattle.pay_member.specs.Member.{MemberFields}
use Rattle.pay_member.specs.declared.reading.Reading.TheVariants as reading
use Rattle.pay_member.specs.Questions.{Shows}
use Rattle.pay_node.specs.declared.receipt.Call.{Call}
use Rattle.pay_node.specs.declared.receipt.Call.TheVariants.{Read}
use Rattle.pay_node.specs.declared.seat.TheConstants.{NO_PLACE}
use Rattle.pay_node.specs.Receipts.{ReceiptFields}
use Rattle.pay_node.specs.Nodes.{IsOwn, IsShown, NodeFields}
use Rattle.pay_node.specs.Receipts.{ShowsAlone, reading_at, reading_receipt}
use Rattle.pay_node.specs.Seats.{KeepsReceipt, SeatFields}
use Rattle.pay_node.specs.Sending.{sent_by}

-- the place that is marked for a number, if there is one
abbrev pub mark_of : List (Option ℕ) → ℕ → Option ℕ
mark_of marks number = slice_index_or marks number None

-- the place that a number stands for among the marks, if it stands for one
abbrev pub marked_place : ℕ → Option ℕ
marked_place place = if place == NO_PLACE then None else Some place

-- the receipt that is marked for the number shows this body
pub record IsKeptFor (seat : SeatFields) (number : ℕ) (body : BodyFields) : Type 0 where
  pub place : ℕ
  pub receipt : ReceiptFields
  pub marked : mark_of seat.marks number ≡ Some place
  pub there : slice_get seat.receipts place ≡ Some receipt
  pub shows : ShowsAlone receipt number body

-- The member sent this body at the number, and the seat keeps a receipt that shows it. If the seat
-- had one before, nothing changes. Otherwise it has at most one more receipt. What is kept of other
-- numbers stays. There are no more marks than sent bodies, if there weren't before.
pub record IsKeptOnce (m : MemberFields) (before after : SeatFields) (number : ℕ)
    (body : BodyFields) : Type 0 where
  pub sent : slice_get (sent_by m) number ≡ Some body
  pub kept : IsKeptFor after number body
  pub once : IsKeptFor before number body → after ≡ before
  pub stamp : after.stamp ≡ before.stamp
  pub receipts :
      (after.receipts ≡ before.receipts)
      ⊎ (after.receipts
      ≡ before.receipts
      ++ reading_receipt (length m.history) (reading.Sent number 1 (body ∷ [])))
  pub others :
      (k : ℕ) (other : BodyFields) → k ≢ number → IsKeptFor before k other → IsKeptFor after k other
  pub few : length after.marks ≤ max (length before.marks) (length (sent_by m))

-- The seat keeps a receipt of the body, or the member sent no such body, and a receipt says so.
abbrev pub IsNoted : MemberFields → SeatFields → SeatFields → ℕ → Option BodyFields → Type 0
IsNoted m before after number (Some body) = IsKeptOnce m before after number body
IsNoted m before after number None =
    Shows m (reading.Sent number 1 [])
    × KeepsReceipt before after
    (reading_at (length m.history) (reading.Sent number 1 []))

-- The node's member, with some legal history, sent this body at the number, and the seat keeps its
-- receipt.
pub record IsShownOnce (n : NodeFields) (before after : SeatFields) (number : ℕ) (body : BodyFields)
    : Type 0 where
  pub member : MemberFields
  pub own : IsOwn n member
  pub legal : Legal member.genesis member.keys member.history
  pub is : IsKeptOnce member before after number body

-- what is fetched of a number
abbrev pub IsFetched : NodeFields → SeatFields → SeatFields → ℕ → Option BodyFields → Type 0
IsFetched n before after number (Some body) = IsShownOnce n before after number body
IsFetched n before after number None =
    IsShown n before after (reading.Sent number 1 [])

-- what is fetched of a number from some seat
pub record HasFetched (n : NodeFields) (number : ℕ) (found : Option BodyFields) : Type 0 where
  pub before : SeatFields
  pub after : SeatFields
  pub is : IsFetched n before after number found

-- ---- seats that do nothing else

-- what was sent was read at one place
pub record IsFetch (call : Call) : Type 0 where
  pub number : ℕ
  pub bodies : List BodyFields
  pub is : call ≡ Read (reading.Sent number 1 bodies)

-- only fetches were called from the seat: it has grown from a fresh seat by those alone
abbrev pub HasFetchedAlone : SeatFields → Type 0
HasFetchedAlone seat = All (λ r. IsFetch r.call) seat.receipts
