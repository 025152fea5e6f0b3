use Rattle.std.proofs.Common.{refl}
use Rattle.pay_echo.specs.Broadcast.{value_of, value_if_send, echoed_by, readied_by, first_known, size, is_for, echoed, echo_of, echo_set, other_ready_of, other_ready_set, may_ready, readied, ready_of, ready_set, may_deliver, delivered}
use Rattle.pay_channel.specs.History.{asks, votes_in, votes, known_from, listed_values, delivered_at, list_of}
use Rattle.pay_channel.proofs.laws.late_first_number_list.Goals as goal

pub returns : goal.returns
unfolding value_of value_if_send echoed_by readied_by first_known size is_for echoed echo_of echo_set other_ready_of other_ready_set may_ready readied ready_of ready_set may_deliver delivered asks votes_in votes known_from listed_values delivered_at list_of
returns c = record { delivered = refl; listed = refl; own = refl }
