use Rattle.pay_frame.proofs.WholeRuns as proved
use Rattle.pay_frame.proofs.laws.stream_is_frames_and_rest.Goals as goal

pub returns : goal.returns
returns c = record { law = proved.stream_is }
