use Rattle.pay_member.proofs.BroughtEvents.{opened_in_is, event_in_is, brought_may_come}
use Rattle.pay_member.proofs.laws.what_is_brought.Goals as goal

pub returns : goal.returns
returns c =
    let frame = c.one_frame_is.ensures.law in
    let opened = c.judgement_opens.ensures in
    record { opened = opened_in_is frame opened; event = event_in_is; may_come = brought_may_come frame opened }
