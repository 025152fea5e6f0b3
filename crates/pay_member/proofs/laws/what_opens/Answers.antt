use Rattle.pay_member.proofs.Openings.{opened_are}
use Rattle.pay_member.proofs.laws.what_opens.Goals as goal

pub returns : goal.returns
returns c = opened_are c.one_frame_is.ensures.law c.judgement_opens.ensures
