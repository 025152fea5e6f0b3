use Rattle.std.proofs.Common.{◌≡◌, replicate}
use Rattle.pay_channel.proofs.channel.zeros.Given as goal

abbrev pub invariant-loop : goal.invariant-loop
invariant-loop l = l.made.items ≡ replicate l.counter 0
