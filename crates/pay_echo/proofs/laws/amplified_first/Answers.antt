use Rattle.std.proofs.Common.{refl}
use Rattle.pay_echo.specs.Broadcast.{value_of, value_if_send, echoed_by, readied_by, first_known, size, is_for, echoed, echo_of, echo_set, other_ready_of, other_ready_set, may_ready, readied, ready_of, ready_set, may_deliver, delivered}
use Rattle.pay_echo.proofs.laws.amplified_first.Goals as goal

pub returns : goal.returns
unfolding value_of value_if_send echoed_by readied_by first_known size is_for echoed echo_of echo_set other_ready_of other_ready_set may_ready readied ready_of ready_set may_deliver delivered
returns c =
    record {
      first = record { echoes = refl; readies = refl; delivers = refl };
      second = record { echoes = refl; readies = refl; delivers = refl };
      third = record { echoes = refl; readies = refl; delivers = refl };
    }
