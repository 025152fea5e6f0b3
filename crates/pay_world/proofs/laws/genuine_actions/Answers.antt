use Rattle.pay_world.proofs.Happening.{no_action_is_genuine, genuine_by_one_more, genuine_prefix, genuine_by_place}
use Rattle.pay_world.proofs.laws.genuine_actions.Goals as goal

pub returns : goal.returns
returns c = record { first = no_action_is_genuine; one_more = genuine_by_one_more; prefix = genuine_prefix; by_place = genuine_by_place }
