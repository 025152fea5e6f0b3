-- Receipts of all seats, counted while a history is replayed once.
use Rattle.std.proofs.Common.{◌≡◌, ℕ, ◌+◌, ◌≤◌, List, length, take, get_or, ap, ◌∙◌, subst, arith}
use Rattle.std.specs.List.{All}
use Rattle.std.proofs.lemmas.List.{take_all}
use Rattle.std.proofs.lemmas.Option.{slice_get-get_or}
use Rattle.pay_member.specs.Member.{MemberFields}
use Rattle.pay_member.specs.Replay.{ReplayFields}
use Rattle.pay_node.specs.Receipts.{ReceiptFields}
use Rattle.pay_node.specs.Receipts.{IsConsistent}
use Rattle.pay_node.specs.Judging.{AreAllCounted, CountedConsistent, EachConsistent}
use Rattle.pay_node.specs.Seats.{SeatFields}

pub replayed_on :
    (first was now : ReplayFields) (place : ℕ) (seats : List SeatFields) (counts : List ℕ)
    → was.member ≡ first.member → now ≡ record was { taken = place } → CountedConsistent now.member seats counts
    → (now.member ≡ first.member) × CountedConsistent first.member seats counts × (now.taken ≤ place + 1)
replayed_on first was now place seats counts at taken counted =
    let same : now.member ≡ first.member = ap (λ (x : ReplayFields). x.member) taken ∙ at in
    let there = ap (λ (x : ReplayFields). x.taken) taken in
    (same, subst (λ x. CountedConsistent x seats counts) same counted, omega arith)

pub all_counted : (m : MemberFields) (seats : List SeatFields) (counts : List ℕ) → CountedConsistent m seats counts → AreAllCounted seats counts → All (λ s. EachConsistent m s) seats
all_counted m seats counts are all k d below =
    let seat : SeatFields = get_or seats k d in
    let there = slice_get-get_or seats k d below in
    subst (All (λ (r : ReceiptFields). IsConsistent m seat.stamp r.seen r.call))
    (ap (λ n. take n seat.receipts) (all k seat there) ∙ take_all (length seat.receipts) seat.receipts (omega arith)) (are k seat there)
