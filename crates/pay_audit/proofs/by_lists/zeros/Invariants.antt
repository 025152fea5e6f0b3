use Rattle.std.proofs.Common.{◌≡◌, replicate}
use Rattle.pay_audit.proofs.by_lists.zeros.Given as goal

-- so many so far
abbrev pub invariant-loop : goal.invariant-loop
invariant-loop l = l.zeros.items ≡ replicate l.counter 0
