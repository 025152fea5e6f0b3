use Rattle.pay_sim.proofs.GroupLimits.{said_group}
use Rattle.pay_sim.proofs.laws.first_line_is_group.Goals as goal

pub returns : goal.returns
returns c = λ line group said. said_group c.genesis_limits.ensures c.liar_causes.ensures.none line group said
