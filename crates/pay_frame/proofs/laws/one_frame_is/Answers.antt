use Rattle.pay_frame.proofs.Computed as proved
use Rattle.pay_frame.proofs.laws.one_frame_is.Goals as goal

pub returns : goal.returns
returns c = record { law = λ x f. (proved.is_one x f, proved.computed x f); none = proved.is_none }
