-- Seats, and when a history is consistent with all receipts of a seat.
use Rattle.std.specs.Prelude.{◌≡◌, ◌≢◌, ◌⊎◌, ℕ, ◌+◌, ◌≤◌, ◌-◌, ◌==◌, List, [], ◌∷◌, ◌++◌, Option}
use Rattle.std.specs.Prelude.{Some, false, drop, length, slice_get, Result, Ok, Err}
use Rattle.std.specs.List.{All, AllPairs, count_by}
use Rattle.pay_member.specs.declared.event.Event.{Event}
use Rattle.pay_member.specs.declared.fault.MemberFault.{MemberFault}
use Rattle.pay_member.specs.declared.event.Reply.{Reply}
use Rattle.pay_member.specs.Answer.{IsAnswer}
use Rattle.pay_member.specs.Legal.{Legal}
use Rattle.pay_member.specs.Member.{MemberFields, with_entry}
use Rattle.pay_node.specs.Receipts.{ReceiptFields}
use Rattle.pay_node.specs.declared.seat.TheConstants.{LATEST}
use Rattle.pay_node.specs.Receipts.{IsConsistent, has_entry, entries_after, receipts_of}

-- A stamp, the receipts of the calls that were made under it, oldest first, and the marks. A mark
-- is the place of the receipt of a number's body, if it is kept.
pub record SeatFields : Type 0 where
  pub stamp : ℕ
  pub receipts : List ReceiptFields
  pub marks : List (Option ℕ)

abbrev pub with_receipts : SeatFields → List ReceiptFields → SeatFields
with_receipts seat more = record seat { receipts = seat.receipts ++ more }

-- the last receipts, among which an equal one is looked for
abbrev pub latest : SeatFields → List ReceiptFields
latest seat = drop (length seat.receipts - LATEST) seat.receipts

-- The receipt is among these, and is of now, as far as they tell: no later receipt saw more
-- entries, or has an entry.
pub record IsOfNow (receipts : List ReceiptFields) (r : ReceiptFields) : Type 0 where
  pub place : ℕ
  pub is : slice_get receipts place ≡ Some r
  pub still : All (λ later. entries_after later ≤ r.seen) (drop (place + 1) receipts)

-- The seat keeps this receipt, which is of now. If it was among the latest before, nothing changes.
-- Otherwise the seat has at most one more receipt.
pub record KeepsReceipt (before after : SeatFields) (r : ReceiptFields) : Type 0 where
  pub kept : IsOfNow after.receipts r
  pub once : IsOfNow (latest before) r → after ≡ before
  pub more : (after ≡ before) ⊎ (after ≡ with_receipts before (r ∷ []))

-- how many of the calls have an entry
abbrev pub entries_told : SeatFields → ℕ
entries_told seat = count_by (λ r. has_entry r.call) seat.receipts

-- how many entries of a history have a stamp
abbrev pub entries_under : ℕ → MemberFields → ℕ
entries_under stamp m = count_by (λ e. e.stamp == stamp) m.history

-- the member without the entries that it began with
abbrev pub since : ℕ → MemberFields → MemberFields
since base m = record m { history = drop base m.history }

-- from the base on, the history has as many entries under the seat's stamp as the seat's receipts
-- tell
unfoldable pub HasItsEntries : MemberFields → ℕ → SeatFields → Type 0
HasItsEntries m base seat = entries_under seat.stamp (since base m) ≡ entries_told seat

-- From the base on, the history has as many entries under the seat's stamp as the seat's receipts
-- tell. Each receipt saw those before the base and is consistent with the history. No receipt saw
-- fewer entries than there were when an earlier one was answered.
-- page: `Right`, `IsConsistent`: a history is consistent with a seat: it has as many entries under
--   its stamp as the seat's receipts tell; no call saw fewer entries than there were when the one
--   before was answered; each receipt's reply is at the place that was seen, its refusal or reading
--   what the entries before require
pub record Right (m : MemberFields) (base : ℕ) (seat : SeatFields) : Type 0 where
  pub counted : entries_under seat.stamp (since base m) ≡ entries_told seat
  pub each : All (λ r. (base ≤ r.seen) × IsConsistent m seat.stamp r.seen r.call) seat.receipts
  pub ordered : AllPairs (λ r later. entries_after r ≤ later.seen) seat.receipts

-- If the first seat was right for the first member, from whatever base, the second seat is right
-- for the second member.
abbrev pub StaysRight : MemberFields → SeatFields → MemberFields → SeatFields → Type 0
StaysRight m seat now after =
    (base : ℕ) → base ≤ length m.history → Right m base seat → Right now base after

-- the member after an event, unchanged if it refused the event
abbrev pub behind : MemberFields → ℕ → Event → Result Reply MemberFault → MemberFields
behind m stamp event (Ok reply) =
    with_entry m (record { stamp = stamp; event = event; reply = reply })
behind m stamp event (Err fault) = m

-- An event was handed to a member of a legal history from a seat, and this is the answer. A reply
-- is an entry of its history, and the seat has the receipt.
pub record IsHandedIn (m : MemberFields) (seat : SeatFields) (event : Event)
    (answer : Result Reply MemberFault) (now : MemberFields) (after : SeatFields) : Type 0 where
  pub legal : Legal m.genesis m.keys m.history
  pub is : IsAnswer m event answer
  pub member : now ≡ behind m seat.stamp event answer
  pub receipt : after ≡ with_receipts seat (receipts_of (length m.history) event answer)

-- What was right stays right when an event is handed in: that seat, and each seat with another
-- stamp.
abbrev pub HandingInStaysRight : Type 0
HandingInStaysRight =
    (m now : MemberFields) (seat after : SeatFields) (event : Event)
    (answer : Result Reply MemberFault)
    → IsHandedIn m seat event answer now after
    → StaysRight m seat now after
    × ((other : SeatFields) → other.stamp ≢ seat.stamp → StaysRight m other now other)

-- A reading with a receipt of now counts as a reading that left another one: the shutdown check
-- judges it in this way.
abbrev pub KeptCountsAsLeft : Type 0
KeptCountsAsLeft =
    (m : MemberFields) (base : ℕ) (seat : SeatFields) (r : ReceiptFields)
    → Right m base seat → IsOfNow seat.receipts r → has_entry r.call ≡ false
    → Right m base (with_receipts seat (r ∷ []))
