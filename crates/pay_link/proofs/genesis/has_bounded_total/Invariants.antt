use Rattle.std.proofs.Common.{◌≡◌, ◌+◌, sum, take}
use Rattle.pay_link.specs.declared.limits.TheConstants.{GREATEST_TOTAL}
use Rattle.pay_link.proofs.genesis.has_bounded_total.Given as goal

-- what is left, and the amounts so far
abbrev pub invariant-loop-amount : goal.invariant-loop-amount
invariant-loop-amount l = l.left + sum (take l.amount-index l.opening) ≡ GREATEST_TOTAL
