use Rattle.std.proofs.Common.{◌≡◌, take}
use Rattle.pay_member.proofs.same.are_same_lines.Given as goal

abbrev pub invariant-loop-k : goal.invariant-loop-k
invariant-loop-k l = take l.k l.a ≡ take l.k l.b
