use Rattle.std.proofs.Common.{arith}
use Rattle.std.proofs.lemmas.Grind.{common_steps}
use Rattle.pay_cli.proofs.check.push_opened.Goals as goal

pub returns-in-Err-clause-err : goal.returns-in-Err-clause-err
returns-in-Err-clause-err c = grind (arith, common_steps)

pub returns-in-Err-clause-fronts : goal.returns-in-Err-clause-fronts
returns-in-Err-clause-fronts c = grind (arith, common_steps)

pub returns-in_err-push_ok-in-Ok-clause-err : goal.returns-in_err-push_ok-in-Ok-clause-err
returns-in_err-push_ok-in-Ok-clause-err c = grind (arith, common_steps)

pub returns-then-eq-clause-words : goal.returns-then-eq-clause-words
returns-then-eq-clause-words c = grind (arith, common_steps)
