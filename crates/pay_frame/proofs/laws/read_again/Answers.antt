use Rattle.pay_frame.proofs.OneReading as proved
use Rattle.pay_frame.proofs.laws.read_again.Goals as goal

pub returns : goal.returns
returns c = record { law = proved.read_again }
