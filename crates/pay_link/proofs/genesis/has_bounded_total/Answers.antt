use Rattle.std.proofs.Common.{arith}
use Rattle.std.proofs.lemmas.Grind.{common_steps}
use Rattle.pay_link.proofs.genesis.has_bounded_total.Goals as goal

pub loop-amount-preserved : goal.loop-amount-preserved
loop-amount-preserved c = grind (arith, common_steps)

pub returns-then-amount-left : goal.returns-then-amount-left
returns-then-amount-left c = grind (arith, common_steps)
