-- How a node ended, by what closing found.
use Rattle.std.proofs.Common.{◌≡◌, inl, inr, ℕ, List, Option, Some, None, Result, Ok, Err, IfOk, ap, length, sym, subst}
use Rattle.std.specs.Prelude.{IfErr, IsErrOf, MatchResult}
use Rattle.pay_durable.specs.Kept.{HasAtLeast}
use Rattle.pay_frame.specs.Counts.{KeepsCounts, counts_of, no_other_faults}
use Rattle.pay_frame.specs.declared.device.StreamFault.{StreamFault}
use Rattle.pay_frame.specs.declared.device.StreamFault.TheVariants as stream
use Rattle.pay_member.specs.Legal.{Legal}
use Rattle.pay_member.specs.Member.{MemberFields}
use Rattle.pay_node.specs.declared.closing.CloseFault.{CloseFault}
use Rattle.pay_node.specs.declared.closing.CloseFault.TheVariants as close
use Rattle.pay_node.specs.Closing.{AllCounted, AllReconciled, IsCloseFault}
use Rattle.pay_node.specs.Nodes.{IsOwn, NodeFields, StoppedFields, base_of}
use Rattle.pay_node.specs.Seats.{SeatFields}
use Rattle.pay_net.specs.declared.start.NodeFault.{NodeFault}
use Rattle.pay_net.specs.declared.start.NodeFault.TheVariants.{Engine}
use Rattle.pay_net.specs.declared.closing.Receipts.{Receipts}
use Rattle.pay_net.specs.declared.closing.Receipts.TheVariants.{Consistent, Unjudged}
use Rattle.pay_desk.specs.declared.desk.Desk.{Desk}
use Rattle.pay_net.specs.Desks.{DeskStreams, desk_streams}
use Rattle.pay_net.specs.Running.{CountsReads, HasClosed, HasEnded, HasRun, IsClosed, IsDeskFault, IsNodeFault, IsSomehowAmiss, IsUnjudged, as_fault, ended_by}
use Rattle.pay_peers.specs.Telling.{TellerFields}
use Rattle.pay_net.proofs.Desks.{right_at_end}

-- by what closing found
pub closes_so :
    (s : StoppedFields) (seats : List SeatFields) (found : Result MemberFields (CloseFault × StoppedFields))
    → IfOk found (λ m. m ≡ s.member) → IfOk found (λ _. AllReconciled s.member (base_of s.node) s.node.seats seats)
    → IfErr found (λ back. IsCloseFault s.node s.member seats back.0) → IfErr found (λ back. back.1 ≡ s)
    → HasClosed s seats (ended_by found)
closes_so s seats (Ok m) is settled fault back =
    (is, subst (λ (x : MemberFields). AllReconciled x (base_of s.node) s.node.seats seats) (sym is) settled)
closes_so s seats (Err (close.Mismatch stamp, again)) is settled fault back = inl fault
closes_so s seats (Err (close.Memory None, again)) is settled fault back =
    let same : again.member ≡ s.member = ap (λ (x : StoppedFields). x.member) back in
    (same, subst (λ (x : MemberFields). AllCounted x (base_of s.node) s.node.seats seats) (sym same) fault)
closes_so s seats (Err (close.Memory (Some stamp), again)) is settled fault back = inr fault

pub closed_by :
    (s : StoppedFields) (seats : List SeatFields) (r ended : Result (MemberFields × Receipts) ℕ) → r ≡ ended → HasClosed s seats ended → HasClosed s seats r
closed_by s seats r ended is closed = subst (λ (x : Result (MemberFields × Receipts) ℕ). HasClosed s seats x) (sym is) closed

ends_at :
    (s : StoppedFields) (first : Desk TellerFields) (ports : List ℕ) (seats : List SeatFields) (streams : DeskStreams) (r : Result (MemberFields × Receipts) ℕ)
    → Legal s.member.genesis s.member.keys s.member.history → IsOwn s.node s.member → HasClosed s seats r → HasRun s.node first seats streams
    → HasEnded s.node first ports streams (as_fault r)
ends_at s first ports seats streams (Ok (m, Consistent)) legal own closed ran =
    let settled = subst (λ (x : MemberFields). AllReconciled x (base_of s.node) s.node.seats seats) closed.0 closed.1 in
    subst (λ (x : MemberFields). IsClosed s.node first x streams) (sym closed.0) (record {
      own = own;
      legal = legal;
      seats = seats;
      settled = settled;
      ran = ran;
      right = right_at_end _ _ _ _ _ ran.desk ran.all settled;
    })
ends_at s first ports seats streams (Ok (m, Unjudged)) legal own closed ran =
    subst (λ (x : MemberFields). IsUnjudged s.node first x streams) (sym closed.0) (record {
      own = own;
      legal = legal;
      seats = seats;
      counted = subst (λ (x : MemberFields). AllCounted x (base_of s.node) s.node.seats seats) closed.0 closed.1;
      ran = ran;
    })
ends_at s first ports seats streams (Err stamp) legal own closed ran =
    record { seats = seats; ran = ran; amiss = record { member = s.member; own = own; legal = legal; amiss = closed } }

pub ends_so :
    (n : NodeFields) (s : StoppedFields) (first : Desk TellerFields) (ports : List ℕ) (seats : List SeatFields) (streams : DeskStreams)
    (r : Result (MemberFields × Receipts) ℕ)
    → s.node ≡ n → Legal s.member.genesis s.member.keys s.member.history → IsOwn s.node s.member → HasClosed s seats r → HasRun n first seats streams
    → HasEnded n first ports streams (as_fault r)
ends_so n s first ports seats streams r same legal own closed ran =
    subst (λ (x : NodeFields). HasEnded x first ports streams (as_fault r)) same
    (ends_at s first ports seats streams r legal own closed
    (subst (λ (x : NodeFields). HasRun x first seats streams) (sym same) ran))

-- the stamp that is told
pub amiss_so :
    (n : NodeFields) (s : StoppedFields) (seats : List SeatFields) (r : Result (MemberFields × Receipts) ℕ) (stamp : ℕ)
    → r ≡ Err stamp → s.node ≡ n → Legal s.member.genesis s.member.keys s.member.history → IsOwn s.node s.member → HasClosed s seats r → IsSomehowAmiss n seats stamp
amiss_so n s seats r stamp is same legal own closed =
    subst (λ (x : NodeFields). IsSomehowAmiss x seats stamp) same (record {
      member = s.member;
      own = own;
      legal = legal;
      amiss = subst (λ (x : Result (MemberFields × Receipts) ℕ). HasClosed s seats x) is closed;
    })

same_member : (s : StoppedFields) (seats : List SeatFields) (ended : MemberFields × Receipts) → HasClosed s seats (Ok ended) → ended.0 ≡ s.member
same_member s seats (m, Consistent) closed = closed.0
same_member s seats (m, Unjudged) closed = closed.0

-- what is said of all entries of a node that stopped, of those that are handed back
pub whole_so :
    (has : ℕ → Type 0) (s : StoppedFields) (seats : List SeatFields) (r : Result (MemberFields × Receipts) ℕ) (ended : MemberFields × Receipts)
    → r ≡ Ok ended → HasClosed s seats r → HasAtLeast has (length s.member.history) → HasAtLeast has (length ended.0.history)
whole_so has s seats r ended is closed had =
    let same = same_member s seats ended (subst (λ (x : Result (MemberFields × Receipts) ℕ). HasClosed s seats x) is closed) in
    subst (λ (m : MemberFields). HasAtLeast has (length m.history)) (sym same) had

-- the same end, of what is the same
pub ended_so :
    (r : Result (MemberFields × Receipts) NodeFault) (n node : NodeFields) (first : Desk TellerFields) (ports : List ℕ) (input left b before a after : Option (List ℕ))
    → n ≡ node → b ≡ before → a ≡ after → HasEnded n first ports (desk_streams input left b a) r
    → HasEnded node first ports (desk_streams input left before after) r
ended_so r n node first ports input left b before a after same_node same_before same_after ended =
    subst (λ (x : Option (List ℕ)). HasEnded node first ports (desk_streams input left before x) r) same_after
    (subst (λ (x : Option (List ℕ)). HasEnded node first ports (desk_streams input left x a) r) same_before
    (subst (λ (x : NodeFields). HasEnded x first ports (desk_streams input left b a) r) same_node ended))

-- ---- a desk that ended with a fault

pub desk_fault :
    (n : NodeFields) (first : Desk TellerFields) (ports : List ℕ) (streams : DeskStreams) (fault : StreamFault)
    → IsDeskFault first fault streams → IsNodeFault n first ports streams (Engine fault)
desk_fault n first ports streams stream.Memory is = tt
desk_fault n first ports streams stream.Read is = is
desk_fault n first ports streams stream.Write is = inl is
desk_fault n first ports streams stream.Bound is = is

pub desk_ended :
    {X : Type 0} (P : X → Type 0) (n : NodeFields) (first : Desk TellerFields) (ports : List ℕ) (streams : DeskStreams) (fault : StreamFault) (r : Result X NodeFault)
    → r ≡ Err (Engine fault) → IsDeskFault first fault streams → MatchResult r P (IsNodeFault n first ports streams)
desk_ended {X} P n first ports streams fault r is ended =
    subst (λ (x : Result X NodeFault). MatchResult x P (IsNodeFault n first ports streams)) (sym is)
    (desk_fault n first ports streams fault ended)

-- what is known of a result that is well
pub well : {X E : Type 0} (P : X → Type 0) (Q : E → Type 0) (r : Result X E) (x : X) → r ≡ Ok x → MatchResult r P Q → P x
well {X} {E} P Q r x is known = subst (λ (y : Result X E). MatchResult y P Q) is known

-- ---- the counts of a desk that ended with a fault

one_fault : {X : Type 0} (a b : StreamFault) → IsErrOf {T = X} (Err (Engine a)) (Engine b) → a ≡ b
one_fault {X} a b same = cc

failed_same : {X : Type 0} (a b : StreamFault) → IsErrOf {T = X} (Err (Engine a)) (Engine b) → IsErrOf {T = Unit} (Err a) b
failed_same {X} a b same = ap Err (one_fault {X = X} a b same)

pub counts_failed :
    {X In Out : Type 0} (calls failures : In → ℕ) (remaining : In → Option (List ℕ)) (lost : Out → ℕ) (old new : In) (was is : Out) (fault : StreamFault) (r : Result Unit StreamFault)
    → r ≡ Err fault → KeepsCounts no_other_faults (counts_of calls failures remaining lost old was) (counts_of calls failures remaining lost new is) r
    → CountsReads {T = X} calls failures remaining old new (Err (Engine fault))
counts_failed {X} {In} {Out} calls failures remaining lost old new was is fault r failed counts =
    let before = counts_of calls failures remaining lost old was in
    let after = counts_of calls failures remaining lost new is in
    let known = subst (λ (x : Result Unit StreamFault). KeepsCounts no_other_faults before after x) failed counts in
    record {
      read = λ e. known.read (failed_same {X = X} fault stream.Read e);
      most = known.most;
      bound = λ e. known.bound (failed_same {X = X} fault stream.Bound e);
      gave = λ e. known.gave (failed_same {X = X} fault stream.Bound e);
    }
