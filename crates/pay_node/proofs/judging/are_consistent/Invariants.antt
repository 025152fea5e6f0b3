use Rattle.std.proofs.Common.{◌≡◌, ◌↔◌, drop}
use Rattle.pay_node.specs.Judging.{AreConsistent}
use Rattle.pay_node.proofs.judging.are_consistent.Given as goal

abbrev pub invariant-loop-receipt : goal.invariant-loop-receipt
invariant-loop-receipt l =
    let m = l.fn.replay.member in
    (l.replay.member ≡ m)
    × (AreConsistent m l.stamp l.fn.replay.taken l.receipts ↔ AreConsistent m l.stamp l.replay.taken (drop l.receipt-index l.receipts))
