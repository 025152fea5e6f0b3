use Rattle.std.proofs.Common.{◌≡◌, take}
use Rattle.pay_link.proofs.keys.copy_each.Given as goal

abbrev pub invariant-loop-key : goal.invariant-loop-key
invariant-loop-key l = l.copies.items ≡ take l.key-index l.keys
