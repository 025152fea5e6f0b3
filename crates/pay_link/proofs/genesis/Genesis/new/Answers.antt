use Rattle.std.proofs.Common.{arith}
use Rattle.std.proofs.lemmas.Grind.{common_steps}
use Rattle.pay_link.proofs.genesis.Genesis.new.Goals as goal

pub invariant_of-result : goal.invariant_of-result
invariant_of-result c = grind (arith, common_steps)

pub returns-clause-fault : goal.returns-clause-fault
returns-clause-fault c = grind (arith, common_steps)

pub returns-in_err-opening-clause-fault : goal.returns-in_err-opening-clause-fault
returns-in_err-opening-clause-fault c = grind (arith, common_steps)

pub returns-then-not-has_bounded_total-clause-fault : goal.returns-then-not-has_bounded_total-clause-fault
returns-then-not-has_bounded_total-clause-fault c = grind (arith, common_steps)

pub returns-then-opening-members-clause-fault : goal.returns-then-opening-members-clause-fault
returns-then-opening-members-clause-fault c = grind (arith, common_steps)
