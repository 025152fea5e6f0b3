-- A node as a desk's teller: what a desk's calls answer at a seat.
use Rattle.std.specs.Prelude.{◌≡◌, ℕ, ◌+◌, ◌-◌, ◌^◌, min, List, Option, Some, None, Ok, Err}
use Rattle.std.specs.Prelude.{Result}
use Rattle.std.specs.List.{filter_map}
use Rattle.pay_desk.specs.declared.fault.TellerFault.{TellerFault}
use Rattle.pay_desk.specs.declared.fault.TellerFault.TheVariants as teller
use Rattle.pay_desk.specs.Calls.{Exchange, Ask, Query, Read, Withhold}
use Rattle.pay_member.specs.declared.fault.AskFault.TheVariants as ask
use Rattle.pay_member.specs.declared.event.Event.TheVariants as event
use Rattle.pay_member.specs.declared.reading.Reading.{Reading}
use Rattle.pay_member.specs.Answer.{answer_of_query}
use Rattle.pay_member.specs.Questions.{account_told}
use Rattle.pay_node.specs.declared.node.HandInFault.TheVariants as unasked
use Rattle.pay_node.specs.declared.receipt.Call.{Call}
use Rattle.pay_node.specs.declared.receipt.Call.TheVariants as call
use Rattle.pay_node.specs.Receipts.{ReceiptFields}
use Rattle.pay_node.specs.Comparing.{HasAsked, IsToldOfOwn, IsWithheldOfOwn}
use Rattle.pay_node.specs.Nodes.{IsAnswered, IsShown, NodeFields}
use Rattle.pay_node.specs.Seats.{SeatFields}

-- An answer about the member's own account is withheld, since the node's member has lost state.
pub record IsWithheld (n : NodeFields) (before after : SeatFields) (reading : Reading)
    : Type 0 where
  pub own : account_told reading ≡ Some n.keys.own
  pub withheld : IsWithheldOfOwn n before after reading

-- A value was handed in at a seat, and this is the answer.
abbrev pub IsToldOfValue :
    NodeFields → SeatFields → SeatFields → List ℕ → Result ℕ TellerFault → Type 0
IsToldOfValue n old new value (Ok seq) = HasAsked n old new value (Ok seq)
IsToldOfValue n old new value (Err teller.Spent) =
    HasAsked n old new value (Err (unasked.Ask ask.Spent))
IsToldOfValue n old new value (Err teller.TooEarly) =
    HasAsked n old new value (Err unasked.TooEarly)
IsToldOfValue n old new value (Err teller.Forgotten) =
    HasAsked n old new value (Err unasked.Forgotten)
IsToldOfValue n old new value (Err teller.Memory) = ⊥

-- The answer to a question is told. About the own account it is that of a member that has lost no
-- state.
pub record IsTold (n : NodeFields) (before after : SeatFields) (reading : Reading) : Type 0 where
  pub shown : IsShown n before after reading
  pub own : account_told reading ≡ Some n.keys.own → IsToldOfOwn n before after reading

-- The answer to a desk's call at a seat: it is that of the node's member, with some legal history,
-- and the seat keeps the receipt.
abbrev pub SeatSays : NodeFields → SeatFields → Exchange → SeatFields → Type 0
SeatSays n old (Ask id value answer) new = IsToldOfValue n old new value answer
SeatSays n old (Query account answer) new =
    IsAnswered n old new (event.Query account) (answer_of_query answer)
SeatSays n old (Read reading) new = IsTold n old new reading
SeatSays n old (Withhold reading) new = IsWithheld n old new reading

-- A node as a teller, the seat that it is called from, and the number under which the node's
-- durability gate notes the next value's id.
pub record TellerFields : Type 0 where
  pub node : NodeFields
  pub seat : SeatFields
  pub next : ℕ

-- the number after `values` values
abbrev pub next_behind : ℕ → ℕ
next_behind values = min values (2 ^ 32 - 1)

-- the number that is next after a call: the one after the number that a value got
abbrev pub next_after : ℕ → Exchange → ℕ
next_after next (Ask id value (Ok seq)) = next_behind (seq + 1)
next_after next (Ask id value (Err fault)) = next
next_after next (Query account answer) = next
next_after next (Read reading) = next
next_after next (Withhold reading) = next

-- what becomes of a node's teller after a desk's call
pub record TellerSays (old : TellerFields) (said : Exchange) (new : TellerFields) : Type 0 where
  pub same : new.node ≡ old.node
  pub told : SeatSays old.node old.seat said new.seat
  pub next : new.next ≡ next_after old.next said

-- the value that a call broadcast, if it did
abbrev pub value_told : Call → Option (List ℕ)
value_told (call.Handed (event.Ask value) (Ok reply)) = Some value
value_told (call.Handed (event.Ask value) (Err fault)) = None
value_told (call.Handed (event.Taken checked) answer) = None
value_told (call.Handed (event.Query account) answer) = None
value_told (call.Read reading) = None

-- the values that were broadcast from a seat, oldest first
unfoldable pub values_told : List ReceiptFields → List (List ℕ)
values_told receipts = filter_map (λ r. value_told r.call) receipts
