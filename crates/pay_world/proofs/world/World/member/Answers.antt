use Rattle.std.proofs.Common.{subst}
use Rattle.pay_world.specs.World.{IsWorld}
use Rattle.pay_world.proofs.world.World.member.Goals as goal

pub returns-in-Some-Some-clause-limits : goal.returns-in-Some-Some-clause-limits
returns-in-Some-Some-clause-limits g c = subst IsWorld c.self.view_is c.self.invariant

pub returns-in_default-clause-limits : goal.returns-in_default-clause-limits
returns-in_default-clause-limits g c = subst IsWorld c.self.view_is c.self.invariant
