use Rattle.std.proofs.Common.{rules}
use Rattle.pay_node.proofs.node.Node.read_own.Goals as goal

pub returns-then-has_forgotten-clause-answered : goal.returns-then-has_forgotten-clause-answered
returns-then-has_forgotten-clause-answered g c = search rules
