use Rattle.std.proofs.Common.{arith}
use Rattle.std.proofs.lemmas.Grind.{common_steps}
use Rattle.pay_member.proofs.member.Member.hand_in.Goals as goal

pub returns-in_ok-query-in-Query-clause-entry : goal.returns-in_ok-query-in-Query-clause-entry
returns-in_ok-query-in-Query-clause-entry g c = grind (arith, common_steps)
