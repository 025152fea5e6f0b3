use Rattle.std.proofs.Common.{arith}
use Rattle.std.proofs.lemmas.Grind.{common_steps}
use Rattle.pay_echo.proofs.plain.put.Goals as goal

pub returns-in-Echo-clause-echoes : goal.returns-in-Echo-clause-echoes
returns-in-Echo-clause-echoes c = grind (arith, common_steps)
