use Rattle.pay_frame.proofs.OneReading as proved
use Rattle.pay_frame.proofs.laws.beginning_is_drained.Goals as goal

pub returns : goal.returns
returns c = record { law = proved.drained_from_beginning }
