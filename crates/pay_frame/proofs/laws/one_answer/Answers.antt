use Rattle.pay_frame.proofs.EveryReading.{every_reading}
use Rattle.pay_frame.proofs.WholeFrame as proved
use Rattle.pay_frame.proofs.laws.one_answer.Goals as goal

pub returns : goal.returns
returns c = record { unique = proved.one_answer; exists = λ x is. let read = every_reading x is in proved.as_one x read.answer read.is }
