use Rattle.pay_world.proofs.Running.{after_nothing, after_one_more}
use Rattle.pay_world.proofs.laws.world_by_events.Goals as goal

pub returns-clause-first : goal.returns-clause-first
returns-clause-first c = after_nothing c.histories_by_actions.ensures.first c.genuine_actions.ensures.first

pub returns-clause-one_more : goal.returns-clause-one_more
returns-clause-one_more c = λ g keys l events old new e reply is answers unforged counted.
    after_one_more g keys l events old is c.histories_by_actions.ensures.one_more c.genuine_actions.ensures.one_more c.forged_is_told.ensures.forged new e reply answers unforged counted
