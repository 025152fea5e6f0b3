use Rattle.std.proofs.Common.{List, sym, subst}
use Rattle.pay_node.specs.Seats.{SeatFields}
use Rattle.pay_net.specs.Running.{HasClosed, HasEnded, as_fault}
use Rattle.pay_net.proofs.Endings.{ends_so, well}
use Rattle.pay_net.proofs.closing.finish.Goals as goal

pub returns-in-Ok-clause-ended : goal.returns-in-Ok-clause-ended
returns-in-Ok-clause-ended g c start ports streams given =
    subst (λ r. HasEnded c.args.node start ports streams (as_fault r)) c.in-Ok.is
    (ends_so c.args.node c.stop-stopped.result start ports c.in_ok-seats.seats.items streams c.close_stopped.result c.stop-stopped.ensures.node c.stop-stopped.ensures.legal
    c.close_stopped.ensures.own
    (subst (λ (s : List SeatFields). HasClosed c.stop-stopped.result s c.close_stopped.result) c.as_slice.ensures.value c.close_stopped.ensures.closed)
    (well _ _ _ _ c.in_ok-seats.was given))

pub returns-clause-ended : goal.returns-clause-ended
returns-clause-ended g c start ports streams given =
    subst (λ r. HasEnded c.args.node start ports streams (as_fault r)) c.in-Err.is
    (ends_so c.args.node c.stop-stopped.result start ports c.in_ok-seats.seats.items streams c.close_stopped.result c.stop-stopped.ensures.node c.stop-stopped.ensures.legal
    c.close_stopped.ensures.own
    (subst (λ (s : List SeatFields). HasClosed c.stop-stopped.result s c.close_stopped.result) c.as_slice.ensures.value c.close_stopped.ensures.closed)
    (well _ _ _ _ c.in_ok-seats.was given))
