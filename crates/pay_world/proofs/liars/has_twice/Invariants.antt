use Rattle.std.proofs.Common.{◌≡◌, drop}
use Rattle.pay_world.specs.Liars.{has_twice}
use Rattle.pay_world.proofs.liars.has_twice.Given as goal

-- whatever stands twice, both stand among those that are left
abbrev pub invariant-loop-place : goal.invariant-loop-place
invariant-loop-place l = has_twice l.liars ≡ has_twice (drop l.place l.liars)
