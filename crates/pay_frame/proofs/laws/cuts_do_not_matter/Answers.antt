use Rattle.pay_frame.proofs.WholeRuns as proved
use Rattle.pay_frame.proofs.laws.cuts_do_not_matter.Goals as goal

pub returns : goal.returns
returns c = record { law = proved.same_frames }
