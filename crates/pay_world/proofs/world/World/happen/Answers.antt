use Rattle.std.proofs.Common.{arith}
use Rattle.std.proofs.lemmas.Grind.{common_steps}
use Rattle.pay_world.proofs.world.World.happen.Goals as goal

pub returns-in-Bring-clause-answers : goal.returns-in-Bring-clause-answers
returns-in-Bring-clause-answers g c = grind (arith, common_steps)

pub returns-in-Bring-clause-refused : goal.returns-in-Bring-clause-refused
returns-in-Bring-clause-refused g c = grind (arith, common_steps)
