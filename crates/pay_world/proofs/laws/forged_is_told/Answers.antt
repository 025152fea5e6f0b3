use Rattle.pay_world.proofs.Telling.{correct_is_told, forged_is_told, none_forged_is_told}
use Rattle.pay_world.proofs.laws.forged_is_told.Goals as goal

pub returns : goal.returns
returns c = record { correct = correct_is_told; forged = forged_is_told; none = none_forged_is_told }
