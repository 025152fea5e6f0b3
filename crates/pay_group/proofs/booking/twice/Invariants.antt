use Rattle.std.proofs.Common.{◌≡◌, drop}
use Rattle.pay_group.specs.Book.{twice_from}
use Rattle.pay_group.proofs.booking.twice.Given as goal

-- none so far
abbrev pub invariant-loop-place : goal.invariant-loop-place
invariant-loop-place l = twice_from 0 l.exports ≡ twice_from l.place (drop l.place l.exports)
