use Rattle.pay_frame.proofs.OneReading as proved
use Rattle.pay_frame.proofs.laws.none_begins_another.Goals as goal

pub returns : goal.returns
returns c = record { law = proved.none_begins_another }
