use Rattle.std.proofs.Common.{◌≡◌, drop, take}
use Rattle.pay_member.proofs.ledger.Ledger.fetch.Given as goal

abbrev pub invariant-loop-k : goal.invariant-loop-k
invariant-loop-k g l = l.bodies.items ≡ take l.k (drop l.from l.self.channel.sent)
