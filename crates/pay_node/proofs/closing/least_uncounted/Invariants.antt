use Rattle.std.proofs.Common.{ℕ, ◌<◌}
use Rattle.pay_node.specs.Closing.{IsCounted}
use Rattle.pay_node.proofs.closing.least_uncounted.Given as goal

abbrev pub invariant-loop-stamp : goal.invariant-loop-stamp
invariant-loop-stamp l = (lower : ℕ) → lower < l.stamp → IsCounted l.member l.base lower l.seats
