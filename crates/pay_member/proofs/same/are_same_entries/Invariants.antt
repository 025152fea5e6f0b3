use Rattle.std.proofs.Common.{◌≡◌, take}
use Rattle.pay_member.proofs.same.are_same_entries.Given as goal

abbrev pub invariant-loop-k : goal.invariant-loop-k
invariant-loop-k l = take l.k l.a ≡ take l.k l.b
