use Rattle.std.proofs.Common.{arith}
use Rattle.std.proofs.lemmas.Grind.{common_steps}
use Rattle.pay_link.proofs.keys.Keys.read.Goals as goal

pub returns-clause-value : goal.returns-clause-value
returns-clause-value c = grind (arith, common_steps)

pub returns-in_err-keys-clause-value : goal.returns-in_err-keys-clause-value
returns-in_err-keys-clause-value c = grind (arith, common_steps)
