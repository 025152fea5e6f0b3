use Rattle.std.proofs.Common.{◌≡◌}
use Rattle.pay_node.proofs.closing.replay_to.Given as goal

abbrev pub invariant-loop-k : goal.invariant-loop-k
invariant-loop-k l = (l.replay ≡ record l.fn.replay { taken = l._k })
