use Rattle.std.proofs.Common.{sym, subst}
use Rattle.pay_net.specs.Inbound.{IsCurrentOnce}
use Rattle.pay_net.proofs.Currents.{once_entered}
use Rattle.pay_net.proofs.inbound.InboundList.enter.Goals as goal

pub invariant_of-self : goal.invariant_of-self
invariant_of-self c = subst IsCurrentOnce (sym c.in_err-push.ensures.items) c.self.invariant

pub invariant_of-self-2 : goal.invariant_of-self-2
invariant_of-self-2 c =
    subst IsCurrentOnce (sym c.in_ok-push.ensures.items) (once_entered c.self.inside.inbound.items c.args.place c.self.invariant)
