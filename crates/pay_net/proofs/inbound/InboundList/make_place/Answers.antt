use Rattle.std.proofs.Common.{ℕ, ◌<◌, List, length, IfSome, sym, subst}
use Rattle.pay_net.specs.declared.inbound.Inbound.{Inbound}
use Rattle.pay_net.specs.Inbound.{IsCurrentOnce}
use Rattle.pay_net.proofs.Currents.{once_without}
use Rattle.pay_net.proofs.inbound.InboundList.make_place.Goals as goal

pub invariant_of-self : goal.invariant_of-self
invariant_of-self c =
    let within = subst (λ (gs : List Inbound). IfSome c.makes_place-at.result (λ (i : ℕ). i < length gs)) c.as_slice.ensures.value c.makes_place-at.ensures.within in
    subst IsCurrentOnce (sym c.taken_off.ensures.left) (once_without c.self.inside.inbound.items c.makes_place-at.result within c.self.invariant)
