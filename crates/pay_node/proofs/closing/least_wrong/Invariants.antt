use Rattle.std.proofs.Common.{ℕ, ◌<◌}
use Rattle.pay_node.specs.Closing.{HasConsistentSeat}
use Rattle.pay_node.proofs.closing.least_wrong.Given as goal

abbrev pub invariant-loop-stamp : goal.invariant-loop-stamp
invariant-loop-stamp l = (lower : ℕ) → lower < l.stamp → HasConsistentSeat l.member l.base lower l.seats
