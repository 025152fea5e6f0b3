use Rattle.std.proofs.Common.{arith}
use Rattle.std.proofs.lemmas.Grind.{common_steps}
use Rattle.pay_book.proofs.accounts.Accounts.new.Goals as goal

pub loop-account-preserved : goal.loop-account-preserved
loop-account-preserved c = grind (arith, common_steps)

pub new_unsettled-requires-clause-total : goal.new_unsettled-requires-clause-total
new_unsettled-requires-clause-total c = grind (arith, common_steps)

pub returns : goal.returns
returns c = grind (arith, common_steps)
