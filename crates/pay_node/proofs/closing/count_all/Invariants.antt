use Rattle.std.proofs.Common.{◌≡◌, ◌≤◌, length}
use Rattle.pay_node.specs.Judging.{CountedConsistent}
use Rattle.pay_node.proofs.closing.count_all.Given as goal

abbrev pub invariant-loop-place : goal.invariant-loop-place
invariant-loop-place l =
    (l.replay.member ≡ l.fn.replay.member) × CountedConsistent l.fn.replay.member l.seats l.counts × (length l.counts ≡ length l.seats)
    × (l.replay.taken ≤ l.place)
