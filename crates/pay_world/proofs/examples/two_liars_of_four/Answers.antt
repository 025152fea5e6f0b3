use Rattle.std.proofs.Common.{refl}
use Rattle.pay_echo.specs.Broadcast.{value_of, value_if_send, echoed_by, readied_by, first_known, size, is_for, echoed, echo_of, echo_set, other_ready_of, other_ready_set, may_ready, readied, ready_of, ready_set, may_deliver, delivered}
use Rattle.pay_channel.specs.History.{asks, votes_in, votes, says, out, delivered_at}
use Rattle.pay_channel.specs.Taken.{taken_bodies}
use Rattle.pay_world.specs.Actions.{history_by}
use Rattle.pay_world.specs.Examples.{two_liars, by_two_liars}
use Rattle.pay_world.proofs.examples.two_liars_of_four.Goals as goal

pub returns : goal.returns
unfolding value_of value_if_send echoed_by readied_by first_known size is_for echoed echo_of echo_set other_ready_of other_ready_set may_ready readied ready_of ready_set may_deliver delivered asks votes_in votes says out delivered_at taken_bodies history_by
returns c = record { liars = refl; genuine = (c.forged_is_told.ensures.none two_liars by_two_liars).0 refl; zero = refl; one = refl }
