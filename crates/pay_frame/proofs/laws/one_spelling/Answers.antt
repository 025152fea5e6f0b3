use Rattle.pay_frame.proofs.OneReading as proved
use Rattle.pay_frame.proofs.laws.one_spelling.Goals as goal

pub returns : goal.returns
returns c = record { law = proved.one_spelling }
