use Rattle.std.proofs.Common.{◌<◌, [], ◌∷◌, length, refl, arith}
use Rattle.std.proofs.lemmas.List.Elements.{All-from_recursion}
use Rattle.pay_echo.specs.Broadcast.{value_of, value_if_send, echoed_by, readied_by, first_known, size, is_for, echoed, echo_of, echo_set, other_ready_of, other_ready_set, may_ready, readied, ready_of, ready_set, may_deliver, delivered}
use Rattle.pay_channel.specs.History.{Ask, asks, votes_in, votes, says, out, delivered_at}
use Rattle.pay_channel.specs.Taken.{taken_bodies}
use Rattle.pay_world.specs.Setting.{IsCorrect, group_at}
use Rattle.pay_world.specs.Examples.{A, setting_of_four}
use Rattle.pay_laws.specs.Restarts.{Restarts, history_by_steps, IsStepAmong}
use Rattle.pay_laws.specs.Examples.{told_steps}
use Rattle.pay_laws.proofs.laws.one_was_told.Goals as goal

zero_is : IsCorrect setting_of_four 0
zero_is = record { member = omega arith; honest = refl }

one_is : IsCorrect setting_of_four 1
one_is = record { member = omega arith; honest = refl }

one_sent : 0 < length (out (group_at setting_of_four 0) (Ask A ∷ []))
unfolding value_of value_if_send echoed_by readied_by first_known size is_for echoed echo_of echo_set other_ready_of other_ready_set may_ready readied ready_of ready_set may_deliver delivered asks votes_in votes says out delivered_at taken_bodies
one_sent = omega arith

pub returns : goal.returns
unfolding value_of value_if_send echoed_by readied_by first_known size is_for echoed echo_of echo_set other_ready_of other_ready_set may_ready readied ready_of ready_set may_deliver delivered asks votes_in votes says out delivered_at taken_bodies history_by_steps
returns c = record {
  kept = λ _. All-from_recursion (IsStepAmong setting_of_four 0 (Ask A ∷ [])) told_steps (tt, ((λ _ _. one_sent), tt));
  lost = λ fair. absurd (omega (arith, (fair zero_is 1 (Restarts 0 0) (omega arith)) refl one_is));
}
