use Rattle.pay_frame.proofs.FaultStays.{fault_stays}
use Rattle.pay_frame.proofs.Streams.{fault_ends}
use Rattle.pay_frame.proofs.laws.fault_is_for_good.Goals as goal

pub returns : goal.returns
returns c = record { fault = fault_stays; stream = fault_ends }
