use Rattle.pay_frame.proofs.Early as proved
use Rattle.pay_frame.proofs.laws.nothing_is_a_beginning.Goals as goal

pub returns : goal.returns
returns c = record { law = proved.nothing_begins }
