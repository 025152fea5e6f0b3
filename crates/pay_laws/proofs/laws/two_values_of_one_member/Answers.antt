use Rattle.std.proofs.Common.{refl}
use Rattle.pay_channel.specs.Taken.{taken_bodies}
use Rattle.pay_laws.specs.Restarts.{history_by_steps}
use Rattle.pay_laws.proofs.laws.two_values_of_one_member.Goals as goal

pub returns : goal.returns
unfolding history_by_steps taken_bodies
returns c = record { one = refl; two = refl }
