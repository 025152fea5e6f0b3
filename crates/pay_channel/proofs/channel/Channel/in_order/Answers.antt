use Rattle.std.proofs.Common.{◌≤◌, ap, sym, subst, length}
use Rattle.pay_channel.specs.State.{State}
use Rattle.pay_channel.proofs.Listing.{lists_nobody}
use Rattle.pay_channel.proofs.channel.Channel.in_order.Goals as goal

pub returns-else-owner-self : goal.returns-else-owner-self
returns-else-owner-self g c =
    let P : State → Type 0 = λ x. x.group.members ≤ c.args.owner in
    let past : c.args.self.now.group.members ≤ c.args.owner = subst P c.self.view_is c.if-owner-self.false in
    sym (ap length (lists_nobody c.args.self.now c.args.owner past))
