use Rattle.std.proofs.Common.{arith}
use Rattle.std.proofs.lemmas.Grind.{common_steps}
use Rattle.pay_audit.proofs.comparison.keep_longer.Goals as goal

pub loop-account-preserved : goal.loop-account-preserved
loop-account-preserved c = grind (arith, common_steps)
