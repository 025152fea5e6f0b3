use Rattle.std.proofs.Common.{rules}
use Rattle.pay_node.proofs.node.Node.query.Goals as goal

pub returns-clause-answered : goal.returns-clause-answered
returns-clause-answered g c = search rules
