use Rattle.std.proofs.Common.{arith}
use Rattle.std.proofs.lemmas.Grind.{common_steps}
use Rattle.pay_audit.proofs.findings.Wrong.with_book.Goals as goal

pub returns-clause-balance : goal.returns-clause-balance
returns-clause-balance c = grind (arith, common_steps)
