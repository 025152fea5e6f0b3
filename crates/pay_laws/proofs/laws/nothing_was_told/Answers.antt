use Rattle.std.proofs.Common.{refl}
use Rattle.std.proofs.lemmas.List.Elements.{All-from_recursion}
use Rattle.pay_world.specs.Examples.{setting_of_four}
use Rattle.pay_laws.specs.Restarts.{history_by_steps, IsStepAmong}
use Rattle.pay_laws.specs.Examples.{ask_steps}
use Rattle.pay_laws.proofs.laws.nothing_was_told.Goals as goal

pub returns : goal.returns
unfolding history_by_steps
returns c = record { fair = λ correct. All-from_recursion (IsStepAmong setting_of_four 0 _) ask_steps (tt, tt); lost = refl }
