use Rattle.std.proofs.Common.{◌≡◌, replicate, None}
use Rattle.pay_echo.proofs.plain.no_votes.Given as goal

abbrev pub invariant-loop : goal.invariant-loop
invariant-loop l = l.votes.items ≡ replicate l.counter None
