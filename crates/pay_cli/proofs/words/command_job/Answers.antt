use Rattle.std.proofs.Common.{arith}
use Rattle.std.proofs.lemmas.Grind.{common_steps}
use Rattle.pay_cli.proofs.words.command_job.Goals as goal

pub returns-else-eq-8 : goal.returns-else-eq-8
returns-else-eq-8 c = grind (arith, common_steps)

pub returns-then-eq : goal.returns-then-eq
returns-then-eq c = grind (arith, common_steps)

pub returns-then-eq-2 : goal.returns-then-eq-2
returns-then-eq-2 c = grind (arith, common_steps)

pub returns-then-eq-3 : goal.returns-then-eq-3
returns-then-eq-3 c = grind (arith, common_steps)

pub returns-then-eq-5 : goal.returns-then-eq-5
returns-then-eq-5 c = grind (arith, common_steps)

pub returns-then-eq-6 : goal.returns-then-eq-6
returns-then-eq-6 c = grind (arith, common_steps)

pub returns-then-eq-7 : goal.returns-then-eq-7
returns-then-eq-7 c = grind (arith, common_steps)
