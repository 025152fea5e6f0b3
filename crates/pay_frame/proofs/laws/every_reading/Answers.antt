use Rattle.pay_frame.proofs.EveryReading as proved
use Rattle.pay_frame.proofs.laws.every_reading.Goals as goal

pub returns : goal.returns
returns c = record { law = λ bytes is. let found = proved.every_reading bytes is in (found.answer, found.is) }
