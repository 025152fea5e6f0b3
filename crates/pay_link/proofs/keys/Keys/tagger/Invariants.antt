use Rattle.std.proofs.Common.{◌≡◌, take}
use Rattle.pay_link.proofs.keys.Keys.tagger.Given as goal

-- the keys so far
abbrev pub invariant-loop-key : goal.invariant-loop-key
invariant-loop-key l = l.keys.items ≡ take l.key-index l.self.keys
