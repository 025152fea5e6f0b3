use Rattle.pay_audit.specs.Exporting.{list_data, lists_of_member}
use Rattle.pay_audit.proofs.Pushing.{next_place}
use Rattle.pay_audit.proofs.exporting.lists_of.Goals as goal

pub loop-owner-preserved : goal.loop-owner-preserved
loop-owner-preserved g c =
    next_place list_data (lists_of_member c.args.member.now) c.loop-owner.owner c.loop-owner.lists.items c.push.new.self.items _
    c.loop-owner.invariant c.in_ok-push.ensures.items c.in_ok-list_of.ensures
