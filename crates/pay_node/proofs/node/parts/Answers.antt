use Rattle.std.proofs.Common.{arith}
use Rattle.std.proofs.lemmas.Grind.{common_steps}
use Rattle.pay_node.proofs.node.parts.Goals as goal

pub loop-stamp-init : goal.loop-stamp-init
loop-stamp-init c = grind (arith, common_steps)

pub returns-clause-seats : goal.returns-clause-seats
returns-clause-seats c = grind (arith, common_steps)
