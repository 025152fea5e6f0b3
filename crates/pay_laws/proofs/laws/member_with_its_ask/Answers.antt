use Rattle.std.proofs.Common.{refl}
use Rattle.pay_echo.specs.Broadcast.{value_of, value_if_send, echoed_by, readied_by, first_known, size, is_for, echoed, echo_of, echo_set, other_ready_of, other_ready_set, may_ready, readied, ready_of, ready_set, may_deliver, delivered}
use Rattle.pay_channel.specs.Asked.{asked_values}
use Rattle.pay_channel.specs.History.{asks, votes_in, votes, known_from, listed_values, delivered_at, list_of}
use Rattle.pay_channel.specs.Taken.{taken_bodies}
use Rattle.pay_laws.specs.Restarts.{history_by_steps}
use Rattle.pay_laws.proofs.laws.member_with_its_ask.Goals as goal

pub returns : goal.returns
unfolding value_of value_if_send echoed_by readied_by first_known size is_for echoed echo_of echo_set other_ready_of other_ready_set may_ready readied ready_of ready_set may_deliver delivered asks votes_in votes known_from listed_values delivered_at list_of asked_values taken_bodies history_by_steps
returns c = record { list = refl; asked = refl }
