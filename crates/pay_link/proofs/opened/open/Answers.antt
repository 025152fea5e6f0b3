use Rattle.std.proofs.Common.{arith, rules}
use Rattle.pay_link.proofs.Judged.{judged}
use Rattle.pay_link.proofs.opened.open.Goals as goal

pub invariant_of-result : goal.invariant_of-result
invariant_of-result g c = search rules

pub returns : goal.returns
returns g c = grind (arith, judged)

pub returns-then-not-is_peer : goal.returns-then-not-is_peer
returns-then-not-is_peer g c = grind (arith, judged)

pub returns-then-not-is_tagged : goal.returns-then-not-is_tagged
returns-then-not-is_tagged g c = grind (arith, judged)

pub returns-then-owner-members : goal.returns-then-owner-members
returns-then-owner-members g c = grind (arith, judged)
