use Rattle.pay_frame.proofs.Early as proved
use Rattle.pay_frame.proofs.laws.faults_of_bytes.Goals as goal

pub returns : goal.returns
returns c = record { law = proved.first_six }
