use Rattle.std.proofs.Common.{◌≡◌}
use Rattle.payd.specs.Groups.{fifths_words}
use Rattle.payd.proofs.groups.fifths_of.Given as goal

-- the groups so far
abbrev pub invariant-loop-at : goal.invariant-loop-at
invariant-loop-at l = l.text.items ≡ fifths_words l.digest l.at
