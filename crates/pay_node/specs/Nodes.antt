-- The answers of a node's calls, and what the calls leave at their seat.
use Rattle.std.specs.Prelude.{◌≡◌, ◌≢◌, ℕ, ◌+◌, ◌<◌, List, [], length, slice_get, Option, Some}
use Rattle.std.specs.Prelude.{None, Result, Ok, Err, Bool, false}
use Rattle.pay_frame.specs.declared.reading.FrameFault.{FrameFault}
use Rattle.pay_frame.specs.Frame.{FrameFields}
use Rattle.pay_frame.specs.OneFrame.{IsOneReading}
use Rattle.pay_channel.specs.Prefix.{IsPrefix}
use Rattle.pay_channel.specs.Taken.{next}
use Rattle.pay_link.specs.Genesis.{GenesisFields}
use Rattle.pay_link.specs.Keys.{KeyFields}
use Rattle.pay_link.specs.Checked.{checked_fields}
use Rattle.pay_link.specs.Opening.{OpenedFields}
use Rattle.pay_link.specs.declared.opened.LinkFault.{LinkFault}
use Rattle.pay_link.specs.declared.opened.LinkFault.TheVariants as link
use Rattle.pay_member.specs.declared.bringing.Brought.{Brought}
use Rattle.pay_member.specs.declared.event.HistoryEntry.{HistoryEntry}
use Rattle.pay_member.specs.declared.event.Event.{Event}
use Rattle.pay_member.specs.declared.event.Event.TheVariants.{Taken}
use Rattle.pay_member.specs.declared.fault.MemberFault.{MemberFault}
use Rattle.pay_member.specs.declared.bringing.Incoming.{Incoming}
use Rattle.pay_member.specs.declared.bringing.Incoming.TheVariants.{Message, Want}
use Rattle.pay_member.specs.declared.bringing.Outcome.{Outcome}
use Rattle.pay_member.specs.declared.bringing.Outcome.TheVariants as outcome
use Rattle.pay_member.specs.declared.ledger.Received.{Received}
use Rattle.pay_member.specs.declared.event.Reply.{Reply}
use Rattle.pay_member.specs.declared.fault.TakeFault.{TakeFault}
use Rattle.pay_member.specs.declared.fault.TakeFault.TheVariants.{Memory, WrongKey, Repeat, Gap}
use Rattle.pay_member.specs.declared.event.Took.{Took}
use Rattle.pay_member.specs.Answer.{IsAnswer, answer_of_take}
use Rattle.pay_member.specs.Events.{events}
use Rattle.pay_member.specs.Bringing.{answered_at_once, incoming_at, with_want}
use Rattle.pay_member.specs.Legal.{Legal}
use Rattle.pay_member.specs.declared.ledger.Lie.{Lie}
use Rattle.pay_member.specs.Lies.{IsFound}
use Rattle.pay_member.specs.Member.{MemberFields}
use Rattle.pay_member.specs.declared.reading.Reading.{Reading}
use Rattle.pay_member.specs.declared.reading.Reading.TheVariants.{LastLie}
use Rattle.pay_member.specs.Questions.{Shows}
use Rattle.pay_node.specs.Receipts.{receipts_of, reading_at}
use Rattle.pay_node.specs.Seats.{KeepsReceipt, SeatFields, with_receipts}

-- What is known about a node without its lock. This is its group's genesis, its keys, the count of
-- its seats, the history that its member began with, and whether it has a rollback check.
pub record NodeFields : Type 0 where
  pub genesis : GenesisFields
  pub keys : KeyFields
  pub seats : ℕ
  pub beginning : List HistoryEntry
  pub compares : Bool

-- the node of a member, with this count of seats, with or without a rollback check
abbrev pub node_as : MemberFields → ℕ → Bool → NodeFields
node_as m seats compares =
    record {
      genesis = m.genesis;
      keys = m.keys;
      seats = seats;
      beginning = m.history;
      compares = compares;
    }

-- a node without a rollback check
abbrev pub node_with : MemberFields → ℕ → NodeFields
node_with m seats = node_as m seats false

-- how many entries the node began with: the seats tell of those after them
abbrev pub base_of : NodeFields → ℕ
base_of n = length n.beginning

-- A node that no thread calls any more, and its member.
pub record StoppedFields : Type 0 where
  pub member : MemberFields
  pub node : NodeFields

-- This member continued from the other: it has its group and its keys, and took nothing back.
pub record WentOn (was now : MemberFields) : Type 0 where
  pub genesis : now.genesis ≡ was.genesis
  pub keys : now.keys ≡ was.keys
  pub begun : IsPrefix was.history now.history

-- a member that continued from the one that the node began with
abbrev pub IsOwn : NodeFields → MemberFields → Type 0
IsOwn n m = WentOn (record { genesis = n.genesis; keys = n.keys; history = n.beginning }) m

-- a seat from which nothing was called
abbrev pub fresh_seat : ℕ → SeatFields
fresh_seat stamp = record { stamp = stamp; receipts = []; marks = [] }

-- `count` fresh seats, with stamps from 0 on
pub record AreFresh (count : ℕ) (seats : List SeatFields) : Type 0 where
  pub many : length seats ≡ count
  pub each : (stamp : ℕ) → stamp < count → slice_get seats stamp ≡ Some (fresh_seat stamp)

-- The node's own member had some legal history of `entries` entries.
pub record HasEntries (n : NodeFields) (entries : ℕ) : Type 0 where
  pub member : MemberFields
  pub own : IsOwn n member
  pub legal : Legal member.genesis member.keys member.history
  pub many : length member.history ≡ entries

-- The number of the next frame from a peer, according to the node's member with some legal history.
pub record HasNext (n : NodeFields) (peer number : ℕ) : Type 0 where
  pub member : MemberFields
  pub own : IsOwn n member
  pub legal : Legal member.genesis member.keys member.history
  pub is : number ≡ next peer (events member.history)

-- What is known about a peer's protocol violations, according to the node's member with some legal
-- history.
pub record FindsLie (n : NodeFields) (peer : ℕ) (lie : Option Lie) : Type 0 where
  pub member : MemberFields
  pub own : IsOwn n member
  pub legal : Legal member.genesis member.keys member.history
  pub is : IsFound (events member.history) peer lie

-- ---- answers

-- The node's member, with some legal history, gives this answer to the event, and the seat has the
-- receipt.
pub record IsAnswered (n : NodeFields) (before after : SeatFields) (event : Event)
    (answer : Result Reply MemberFault) : Type 0 where
  pub member : MemberFields
  pub own : IsOwn n member
  pub legal : Legal member.genesis member.keys member.history
  pub is : IsAnswer member event answer
  pub receipt : after ≡ with_receipts before (receipts_of (length member.history) event answer)

-- The node's member, with some legal history, gives this answer to the question, and the seat keeps
-- the receipt.
pub record IsShown (n : NodeFields) (before after : SeatFields) (reading : Reading) : Type 0 where
  pub member : MemberFields
  pub own : IsOwn n member
  pub legal : Legal member.genesis member.keys member.history
  pub is : Shows member reading
  pub receipt : KeepsReceipt before after (reading_at (length member.history) reading)

-- The answer is the last protocol violation of a peer, if the node's member knows of one, and the
-- seat keeps the receipt. If the member knows of none, no receipt is left.
abbrev pub IsAccused : NodeFields → ℕ → SeatFields → SeatFields → Option Lie → Type 0
IsAccused n peer before after None = FindsLie n peer None × (after ≡ before)
IsAccused n peer before after (Some lie) = IsShown n before after (LastLie peer (Some lie))

-- ---- what is received

-- the outcome of an authenticated frame
abbrev pub outcome_of_take : Result Took TakeFault → Outcome
outcome_of_take (Ok took) = outcome.Took took
outcome_of_take (Err (Repeat next)) = outcome.Link (link.Repeat next)
outcome_of_take (Err (Gap next)) = outcome.Link (link.Gap next)
outcome_of_take (Err WrongKey) = outcome.WrongKey
outcome_of_take (Err Memory) = outcome.WrongKey

-- the number that is next from its sender: the one after the frame's, or the one that was next
abbrev pub next_of : ℕ → Result Took TakeFault → Option ℕ
next_of number (Ok took) = Some (number + 1)
next_of number (Err (Repeat next)) = Some next
next_of number (Err (Gap next)) = Some next
next_of number (Err WrongKey) = None
next_of number (Err Memory) = None

-- An authenticated frame was handed to the member, and this is its answer. A lack of memory is no
-- answer.
pub record IsTaken (n : NodeFields) (before after : SeatFields) (opened : OpenedFields)
    (r : Received) : Type 0 where
  pub answer : Result Took TakeFault
  pub memory : answer ≢ Err Memory
  pub answered : IsAnswered n before after (Taken (checked_fields opened)) (answer_of_take answer)
  pub outcome : r.outcome ≡ outcome_of_take answer
  pub next : r.next ≡ next_of opened.frame.number answer

-- a frame that isn't authenticated, or is a WANT, is answered at once and leaves no receipt
abbrev pub IsAnsweredAs :
    NodeFields → SeatFields → SeatFields → Result Incoming LinkFault → Received → Type 0
IsAnsweredAs n before after (Ok (Message opened)) r = IsTaken n before after opened r
IsAnsweredAs n before after (Ok (Want from number)) r =
    (r ≡ answered_at_once (outcome.Wanted from number)) × (after ≡ before)
IsAnsweredAs n before after (Err fault) r =
    (r ≡ answered_at_once (outcome.Link fault)) × (after ≡ before)

-- a frame was received from a seat, and this is the answer
abbrev pub IsReceived : NodeFields → SeatFields → SeatFields → FrameFields → Received → Type 0
IsReceived n before after f r = IsAnsweredAs n before after (incoming_at n.keys f) r

-- the frame is a message for the member
abbrev pub IsMessage : KeyFields → FrameFields → Type 0
IsMessage k f = (opened : OpenedFields) × (incoming_at k f ≡ Ok (Message opened))

-- the answer to bytes that read in this way, with the WANT to the sender of a frame for the number
-- that is next
abbrev pub IsBroughtAs :
    NodeFields → SeatFields → SeatFields → Result FrameFields FrameFault → Brought → Type 0
IsBroughtAs n before after (Ok f) b =
    (r : Received) × IsReceived n before after f r × (b ≡ with_want n.keys f.from r)
IsBroughtAs n before after (Err fault) b =
    (b ≡ record { outcome = outcome.Frame fault; want = None }) × (after ≡ before)

-- the answer to bytes, according to their only reading
pub record IsBrought (n : NodeFields) (bytes : List ℕ) (before after : SeatFields) (b : Brought)
    : Type 0 where
  pub reading : Result FrameFields FrameFault
  pub reads : IsOneReading bytes reading
  pub is : IsBroughtAs n before after reading b
