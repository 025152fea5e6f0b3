use Rattle.std.proofs.Common.{◌≡◌, length}
use Rattle.pay_node.specs.Judging.{CountedConsistent}
use Rattle.pay_node.proofs.closing.count_here.Given as goal

abbrev pub invariant-loop-k : goal.invariant-loop-k
invariant-loop-k l = CountedConsistent l.replay.member l.seats l.counts × (length l.counts ≡ length l.seats)
