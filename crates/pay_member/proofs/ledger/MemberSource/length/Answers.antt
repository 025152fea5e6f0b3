use Rattle.std.proofs.Common.{arith}
use Rattle.std.proofs.lemmas.Grind.{common_steps}
use Rattle.pay_member.proofs.ledger.MemberSource.length.Goals as goal

pub returns : goal.returns
returns g c = grind (arith, common_steps)
