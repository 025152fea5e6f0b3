use Rattle.std.proofs.Common.{◌≡◌, take}
use Rattle.pay_member.proofs.reading.Bodies.copy.Given as goal

abbrev pub invariant-loop-body : goal.invariant-loop-body
invariant-loop-body l = l.bodies.items ≡ take l.body-index l.self
