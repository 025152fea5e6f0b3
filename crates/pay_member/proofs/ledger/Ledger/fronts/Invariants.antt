use Rattle.std.proofs.Common.{◌≡◌, take}
use Rattle.pay_member.proofs.ledger.Ledger.fronts.Given as goal

abbrev pub invariant-loop-account : goal.invariant-loop-account
invariant-loop-account g l = l.fronts.items ≡ take l.account l.self.book.front
