use Rattle.pay_node.specs.Judging.{FirstConsistent}
use Rattle.pay_node.proofs.closing.count_from.Given as goal

abbrev pub invariant-loop-k : goal.invariant-loop-k
invariant-loop-k l = FirstConsistent l.replay.member l.seat l.k
