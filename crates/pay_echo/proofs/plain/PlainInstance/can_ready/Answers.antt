use Rattle.std.proofs.Common.{arith}
use Rattle.std.proofs.lemmas.Grind.{common_steps}
use Rattle.pay_echo.proofs.plain.PlainInstance.can_ready.Goals as goal

pub returns-else-all-echoes : goal.returns-else-all-echoes
returns-else-all-echoes c = grind (arith, common_steps)

pub returns-then-all-echoes : goal.returns-then-all-echoes
returns-then-all-echoes c = grind (arith, common_steps)
