-- What is left of a node after it has ended.
use Rattle.std.specs.Prelude.{◌≡◌, ◌⊎◌, ℕ, ◌*◌, ◌-◌, ◌+◌, ◌≤◌, ◌==◌, zero, suc}
use Rattle.std.specs.Prelude.{if◌then◌else◌, List, [], ◌∷◌, ◌++◌, length, map, slice_get}
use Rattle.std.specs.Prelude.{Option, Some, None, Result, Ok, Err, IsErrOf, ⊤}
use Rattle.std.specs.List.{All}
use Rattle.pay_desk.specs.declared.desk.Desk.{Desk}
use Rattle.pay_frame.specs.declared.limits.TheConstants.{MOST_READS}
use Rattle.pay_frame.specs.declared.device.StreamFault.{StreamFault}
use Rattle.pay_frame.specs.declared.device.StreamFault.TheVariants.{Memory, Read, Write, Bound}
use Rattle.pay_frame.specs.Device.{Gave, RoseBy}
use Rattle.pay_link.specs.Keys.{KeyFields}
use Rattle.pay_member.specs.Legal.{Legal}
use Rattle.pay_member.specs.Member.{MemberFields}
use Rattle.pay_node.specs.declared.closing.CloseFault.{CloseFault}
use Rattle.pay_node.specs.declared.closing.CloseFault.TheVariants as close
use Rattle.pay_node.specs.Closing.{AllCounted, AllReconciled, IsLeastUncounted, IsLeastWrong}
use Rattle.pay_node.specs.Keeping.{HasFetchedAlone}
use Rattle.pay_node.specs.Nodes.{IsOwn, NodeFields, StoppedFields, base_of, fresh_seat, node_as}
use Rattle.pay_node.specs.Seats.{Right, SeatFields}
use Rattle.pay_peers.specs.Growing.{SeatGrows}
use Rattle.pay_peers.specs.Telling.{TellerFields}
use Rattle.pay_net.specs.Desks.{DeskStreams, HasServed}
use Rattle.pay_net.specs.declared.start.NodeFault.{NodeFault}
use Rattle.pay_net.specs.declared.start.NodeFault.TheVariants.{Close, Engine, Port}
use Rattle.pay_net.specs.Starting.{StartFields}
use Rattle.pay_net.specs.declared.closing.Receipts.{Receipts}
use Rattle.pay_net.specs.declared.closing.Receipts.TheVariants.{Consistent, Unjudged}

-- the node of a start: two seats for each peer, and one for the desk
abbrev pub node_of : StartFields → NodeFields
node_of start = node_as start.member (2 * length start.member.keys.keys - 1) start.compares

-- ---- the threads

-- the members below a number, except this one
abbrev pub others_below : ℕ → ℕ → List ℕ
others_below own zero = []
others_below own (suc peer) =
    if peer == own then others_below own peer else others_below own peer ++ peer ∷ []

abbrev pub peers_of : KeyFields → List ℕ
peers_of k = others_below k.own (length k.keys)

-- a peer, and a seat that was fresh and has only receipts of that peer's frames
abbrev pub IsReader : ℕ × SeatFields → Type 0
IsReader reader = SeatGrows reader.0 (fresh_seat reader.1.stamp) reader.1

-- All seats of a node after the end of its desk's input. First come the seats that its peers were
-- read from, one for each in order. Then come those that they were answered from, with fetches
-- alone, and the seat of the last desk.
pub record HasRun (n : NodeFields) (first : Desk TellerFields) (seats : List SeatFields)
    (streams : DeskStreams) : Type 0 where
  pub readers : List (ℕ × SeatFields)
  pub writers : List SeatFields
  pub desk : SeatFields
  pub all : seats ≡ (map (λ r. r.1) readers ++ writers) ++ desk ∷ []
  pub peers : map (λ r. r.0) readers ≡ peers_of n.keys
  pub read : All IsReader readers
  pub fetched : All HasFetchedAlone writers
  pub served : HasServed first desk streams (Ok tt)

-- ---- a member that is returned

-- The node's own member. Its history begins with the one that the node began with, and a single
-- thread could have made it. From there on it is consistent with all receipts of the node's seats,
-- and so with all answers to its last desk.
pub record IsClosed (n : NodeFields) (first : Desk TellerFields) (m : MemberFields)
    (streams : DeskStreams) : Type 0 where
  pub own : IsOwn n m
  pub legal : Legal m.genesis m.keys m.history
  pub seats : List SeatFields
  pub settled : AllReconciled m (base_of n) n.seats seats
  pub ran : HasRun n first seats streams
  pub right : Right m (base_of n) ran.desk

-- The node's own member, if it is only known to have as many entries under each stamp as its seat's
-- receipts tell.
pub record IsUnjudged (n : NodeFields) (first : Desk TellerFields) (m : MemberFields)
    (streams : DeskStreams) : Type 0 where
  pub own : IsOwn n m
  pub legal : Legal m.genesis m.keys m.history
  pub seats : List SeatFields
  pub counted : AllCounted m (base_of n) n.seats seats
  pub ran : HasRun n first seats streams

-- ---- why no member is returned

-- A stamp for which the shutdown check of a node's member fails with these seats. If memory ran
-- out, it is the least stamp with another count of entries than its seat's receipts tell.
abbrev pub IsAmiss : StoppedFields → List SeatFields → ℕ → Type 0
IsAmiss s seats stamp =
    IsLeastWrong s.member (base_of s.node) s.node.seats seats stamp
    ⊎ IsLeastUncounted s.member (base_of s.node) s.node.seats seats stamp

-- a stamp for which the shutdown check fails, for the node's member with some legal history
pub record IsSomehowAmiss (n : NodeFields) (seats : List SeatFields) (stamp : ℕ) : Type 0 where
  pub member : MemberFields
  pub own : IsOwn n member
  pub legal : Legal member.genesis member.keys member.history
  pub amiss : IsAmiss (record { member = member; node = n }) seats stamp

-- the node ended with these seats, and its shutdown check fails with them
pub record IsMismatch (n : NodeFields) (first : Desk TellerFields) (stamp : ℕ)
    (streams : DeskStreams) : Type 0 where
  pub seats : List SeatFields
  pub ran : HasRun n first seats streams
  pub amiss : IsSomehowAmiss n seats stamp

-- the desk ended with this fault
pub record IsDeskFault (first : Desk TellerFields) (fault : StreamFault)
    (streams : DeskStreams) : Type 0 where
  pub desk : SeatFields
  pub served : HasServed first desk streams (Err fault)

-- The fault of a node. It can't listen on its own port of these, for some reason. Or memory ran
-- out. Or the desk ended with this fault. For a fault of writing, all may also have come to its end
-- while the history couldn't be kept. Or the shutdown check failed; that it lacks memory is no
-- fault.
abbrev pub IsNodeFault :
    NodeFields → Desk TellerFields → List ℕ → DeskStreams → NodeFault → Type 0
IsNodeFault n first ports streams (Port port why) = slice_get ports n.keys.own ≡ Some port
IsNodeFault n first ports streams (Engine Memory) = ⊤
IsNodeFault n first ports streams (Engine Read) = IsDeskFault first Read streams
IsNodeFault n first ports streams (Engine Bound) = IsDeskFault first Bound streams
IsNodeFault n first ports streams (Engine Write) =
    IsDeskFault first Write streams
    ⊎ ((seats : List SeatFields) × HasRun n first seats streams)
IsNodeFault n first ports streams (Close (close.Memory uncounted)) = ⊥
IsNodeFault n first ports streams (Close (close.Mismatch stamp)) =
    IsMismatch n first stamp streams

-- ---- how it ended

abbrev pub HasEnded :
    NodeFields → Desk TellerFields → List ℕ → DeskStreams
    → Result (MemberFields × Receipts) NodeFault → Type 0
HasEnded n first ports streams (Ok (m, Consistent)) =
    IsClosed n first m streams
HasEnded n first ports streams (Ok (m, Unjudged)) =
    IsUnjudged n first m streams
HasEnded n first ports streams (Err fault) =
    IsNodeFault n first ports streams fault

-- the result of what the shutdown check found: a member, or a stamp
abbrev pub ended_by :
    Result MemberFields (CloseFault × StoppedFields) → Result (MemberFields × Receipts) ℕ
ended_by (Ok m) = Ok (m, Consistent)
ended_by (Err (close.Mismatch stamp, stopped)) = Err stamp
ended_by (Err (close.Memory None, stopped)) = Ok (stopped.member, Unjudged)
ended_by (Err (close.Memory (Some stamp), stopped)) = Err stamp

-- What became of a node that stopped, with these seats. The node's member is returned, and it
-- agrees with the seats or has as many entries as they tell. Otherwise the shutdown check names a
-- stamp.
abbrev pub HasClosed :
    StoppedFields → List SeatFields → Result (MemberFields × Receipts) ℕ → Type 0
HasClosed s seats (Ok (m, Consistent)) =
    (m ≡ s.member) × AllReconciled m (base_of s.node) s.node.seats seats
HasClosed s seats (Ok (m, Unjudged)) =
    (m ≡ s.member) × AllCounted m (base_of s.node) s.node.seats seats
HasClosed s seats (Err stamp) = IsAmiss s seats stamp

-- this result, as the end of a node
abbrev pub as_fault :
    Result (MemberFields × Receipts) ℕ → Result (MemberFields × Receipts) NodeFault
as_fault (Ok ended) = Ok ended
as_fault (Err stamp) = Err (Close (close.Mismatch stamp))

-- What the counts of the desk's input say about a node. A fault of reading comes from a read that
-- failed. At most `MOST_READS` reads are made. At the read limit that many were made, and each gave
-- a byte.
pub record CountsReads {T In : Type 0} (calls failures : In → ℕ) (remaining : In → Option (List ℕ))
    (old new : In) (result : Result T NodeFault) : Type 0 where
  pub read : IsErrOf result (Engine Read) → RoseBy 1 (failures old) (failures new)
  pub most : calls new ≤ calls old + MOST_READS
  pub bound : IsErrOf result (Engine Bound) → RoseBy MOST_READS (calls old) (calls new)
  pub gave : IsErrOf result (Engine Bound) → Gave MOST_READS (remaining old) (remaining new)
