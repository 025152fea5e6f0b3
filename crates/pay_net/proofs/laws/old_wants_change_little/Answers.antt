use Rattle.pay_net.proofs.Asked.{asked_stays, old_leaves_current, old_makes_none}
use Rattle.pay_net.proofs.laws.old_wants_change_little.Goals as goal

pub returns-clause-asked : goal.returns-clause-asked
returns-clause-asked c = asked_stays

pub returns-clause-made : goal.returns-clause-made
returns-clause-made c = old_makes_none

pub returns-clause-left : goal.returns-clause-left
returns-clause-left c = old_leaves_current
