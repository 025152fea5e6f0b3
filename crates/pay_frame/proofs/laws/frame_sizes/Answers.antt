use Rattle.pay_frame.proofs.FaultStays.{greatest_frame, beginning_is_short}
use Rattle.pay_frame.proofs.Starting.{length-frame}
use Rattle.pay_frame.proofs.Streams.{many_bytes}
use Rattle.pay_frame.proofs.laws.frame_sizes.Goals as goal

pub returns : goal.returns
returns c = record { frame = length-frame; greatest = greatest_frame; beginning = beginning_is_short; count = many_bytes }
