use Rattle.std.proofs.Common.{arith}
use Rattle.std.proofs.lemmas.Grind.{common_steps}
use Rattle.pay_link.proofs.json.numbers_at.Goals as goal

pub returns-in_default-as_u64 : goal.returns-in_default-as_u64
returns-in_default-as_u64 c = grind (arith, common_steps)

pub loop-item-preserved : goal.loop-item-preserved
loop-item-preserved c = grind (arith, common_steps)

pub returns : goal.returns
returns c = grind (arith, common_steps)
