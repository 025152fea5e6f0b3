use Rattle.std.proofs.Common.{sym, subst}
use Rattle.pay_net.specs.Inbound.{IsCurrentOnce}
use Rattle.pay_net.proofs.Currents.{once_claimed, once_current}
use Rattle.pay_net.proofs.inbound.InboundList.ask.Goals as goal

pub invariant_of-self : goal.invariant_of-self
invariant_of-self c =
    subst IsCurrentOnce (sym c.make_current.ensures) (once_current c.self.inside.inbound.items c.args.place c.args.peer c.self.invariant)

pub invariant_of-self-else-is_noted : goal.invariant_of-self-else-is_noted
invariant_of-self-else-is_noted c =
    subst IsCurrentOnce (sym c.claim.ensures) (once_claimed c.self.inside.inbound.items c.args.place c.args.peer c.self.invariant)

pub returns-then-is_noted-clause-once : goal.returns-then-is_noted-clause-once
returns-then-is_noted-clause-once c =
    subst IsCurrentOnce (sym c.make_current.ensures) (once_current c.self.inside.inbound.items c.args.place c.args.peer c.self.invariant)

pub returns-else-is_noted-clause-once : goal.returns-else-is_noted-clause-once
returns-else-is_noted-clause-once c =
    subst IsCurrentOnce (sym c.claim.ensures) (once_claimed c.self.inside.inbound.items c.args.place c.args.peer c.self.invariant)
