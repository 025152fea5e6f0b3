use Rattle.pay_frame.proofs.Streams as proved
use Rattle.pay_frame.proofs.laws.every_stream.Goals as goal

pub returns : goal.returns
returns c = record { law = proved.every_stream }
