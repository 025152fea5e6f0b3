use Rattle.std.proofs.Common.{arith}
use Rattle.std.proofs.lemmas.Grind.{common_steps}
use Rattle.pay_audit.proofs.replaying.replay.Goals as goal

pub returns-clause-member : goal.returns-clause-member
returns-clause-member g c = grind (arith, common_steps)
