use Rattle.pay_durable.proofs.Followed.{gathered}
use Rattle.pay_durable.proofs.following.Following.gather.Goals as goal

pub invariant_of-self : goal.invariant_of-self
invariant_of-self g c = (
  c.push_missing.ensures.short,
  λ all works.
      gathered g.D.Device.is_known g.D.Device.seen g.D.Device.may_leave c.self.inside.log c.args.ids.now c.args.member.now.history c.self.inside.count c.push_missing.new.count
      c.self.inside.pending.items c.push_missing.new.pending.items c.push_missing.ensures.gathered (c.self.invariant.1 all works),
)
