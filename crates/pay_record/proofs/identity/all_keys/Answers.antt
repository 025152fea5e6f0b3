use Rattle.pay_record.specs.Identity.{shared_key}
use Rattle.pay_record.proofs.Grown.{one_place_more}
use Rattle.pay_record.proofs.identity.all_keys.Goals as goal

pub loop-member-preserved : goal.loop-member-preserved
loop-member-preserved c =
    one_place_more (shared_key c.args.keys.now) c.loop-member.member c.loop-member.bytes.items c.extend_from_slice.new.self.items c.shared_key.result
    c.loop-member.invariant c.in_ok-extend_from_slice.ensures.items c.shared_key.ensures
