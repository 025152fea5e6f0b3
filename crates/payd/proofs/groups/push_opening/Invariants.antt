use Rattle.std.proofs.Common.{◌≡◌, ◌++◌, take}
use Rattle.std.specs.List.{flat_map}
use Rattle.payd.specs.Groups.{count_words}
use Rattle.payd.proofs.groups.push_opening.Given as goal

-- the openings so far
abbrev pub invariant-loop-account : goal.invariant-loop-account
invariant-loop-account l =
    l.text.items ≡ l.initial.text.items ++ flat_map count_words (take l.account l.genesis.opening)
