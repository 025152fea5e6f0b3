use Rattle.std.proofs.Common.{arith, rules}
use Rattle.std.proofs.lemmas.Grind.{common_steps}
use Rattle.pay_net.proofs.Seatings.{brings_more, brings_none}
use Rattle.pay_net.proofs.seats.gather_writers.Goals as goal

pub loop-seat-init : goal.loop-seat-init
loop-seat-init c = (brings_none _, search rules)

pub loop-seat-preserved : goal.loop-seat-preserved
loop-seat-preserved c = (
  brings_more _ _ _ _ _ _ c.into_seat.ensures.fetched c.in_ok-push.ensures.items c.loop-seat.invariant.0,
  grind (arith, common_steps),
)
