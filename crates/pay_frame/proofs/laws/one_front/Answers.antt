use Rattle.pay_frame.proofs.OneReading as proved
use Rattle.pay_frame.proofs.laws.one_front.Goals as goal

pub returns : goal.returns
returns c = record { law = λ f g x y is js e. let same = proved.same_front f g x y is js e in (same.frame, same.rest) }
