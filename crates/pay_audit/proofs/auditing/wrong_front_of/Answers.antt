use Rattle.std.proofs.Common.{arith}
use Rattle.std.proofs.lemmas.Grind.{common_steps}
use Rattle.pay_audit.proofs.auditing.wrong_front_of.Goals as goal

pub loop-account-preserved : goal.loop-account-preserved
loop-account-preserved g c = grind (arith, common_steps)
