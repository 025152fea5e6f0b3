use Rattle.pay_frame.specs.Places.{PassBelow}
use Rattle.pay_frame.proofs.reading.first_wrong.Given as goal

abbrev pub invariant-loop-place : goal.invariant-loop-place
invariant-loop-place l = PassBelow l.bytes l.place
