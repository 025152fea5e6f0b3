use Rattle.std.proofs.Common.{ℕ, ◌<◌, List, length, IfSome, sym, subst}
use Rattle.pay_net.specs.declared.inbound.Inbound.{Inbound}
use Rattle.pay_net.specs.Inbound.{IsCurrentOnce}
use Rattle.pay_net.proofs.Currents.{once_without}
use Rattle.pay_net.proofs.inbound.InboundList.leave.Goals as goal

pub invariant_of-self : goal.invariant_of-self
invariant_of-self c =
    let within = subst (λ (gs : List Inbound). IfSome c.first_at-at.result (λ (i : ℕ). i < length gs)) c.as_slice.ensures.value c.first_at-at.ensures.within in
    subst IsCurrentOnce (sym c.taken_off.ensures.left) (once_without c.self.inside.inbound.items c.first_at-at.result within c.self.invariant)
