use Rattle.std.proofs.Common.{◌≡◌, refl, arith}
use Rattle.pay_echo.specs.Broadcast.{value_of, value_if_send, echoed_by, readied_by, first_known, size, is_for, echoed, echo_of, echo_set, other_ready_of, other_ready_set, may_ready, readied, ready_of, ready_set, may_deliver, delivered}
use Rattle.pay_channel.specs.History.{asks, votes_in, votes, says, out, delivered_at}
use Rattle.pay_channel.specs.Taken.{taken_bodies}
use Rattle.pay_world.specs.Setting.{HasFewFaulty}
use Rattle.pay_world.specs.Actions.{history_by}
use Rattle.pay_world.specs.Examples.{setting_of_four}
use Rattle.pay_world.proofs.examples.one_forged_frame.Goals as goal

few : HasFewFaulty setting_of_four
unfolding size
few =
    let one : size 4 setting_of_four.faulty ≡ 1 = refl in
    record { few = omega arith; many = omega arith }

pub returns : goal.returns
unfolding value_of value_if_send echoed_by readied_by first_known size is_for echoed echo_of echo_set other_ready_of other_ready_set may_ready readied ready_of ready_set may_deliver delivered asks votes_in votes says out delivered_at taken_bodies history_by
returns c = record { few = few; forged = refl; zero = refl; one = refl }
