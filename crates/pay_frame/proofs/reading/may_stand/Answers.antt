use Rattle.std.proofs.Common.{arith, rules}
use Rattle.std.proofs.lemmas.Grind.{common_steps}
use Rattle.pay_frame.proofs.reading.may_stand.Goals as goal

pub returns-else-not-is_want : goal.returns-else-not-is_want
returns-else-not-is_want c = search rules

pub returns-in-18 : goal.returns-in-18
returns-in-18 c = search rules

pub returns-in-23 : goal.returns-in-23
returns-in-23 c = grind (arith, common_steps)
