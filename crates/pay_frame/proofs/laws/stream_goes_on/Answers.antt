use Rattle.pay_frame.proofs.Streams as proved
use Rattle.pay_frame.proofs.laws.stream_goes_on.Goals as goal

pub returns : goal.returns
returns c = record { joined = proved.joins; parted = proved.parts }
