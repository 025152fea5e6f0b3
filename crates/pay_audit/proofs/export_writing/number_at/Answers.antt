use Rattle.std.proofs.Common.{arith}
use Rattle.std.proofs.lemmas.Grind.{common_steps}
use Rattle.pay_audit.proofs.export_writing.number_at.Goals as goal

pub returns-in-Balances : goal.returns-in-Balances
returns-in-Balances g c = grind (arith, common_steps)
