use Rattle.std.proofs.Common.{rules}
use Rattle.pay_net.proofs.inbound.InboundList.new.Goals as goal

pub returns : goal.returns
returns c =
    let greatest = c.in_ok-greatest.ensures.items_if_clones_equal (λ y is. search rules) in
    search rules
