use Rattle.pay_node.specs.Nodes.{AreFresh}
use Rattle.pay_node.proofs.node.parts.Given as goal

abbrev pub invariant-loop-stamp : goal.invariant-loop-stamp
invariant-loop-stamp l = AreFresh l.stamp l.made.items
