use Rattle.std.proofs.Common.{◌≡◌, map}
use Rattle.std.specs.List.{range_with_len}
use Rattle.pay_link.specs.TestKeys.{test_keys_of}
use Rattle.pay_world.proofs.run.group_test_keys.Given as goal

-- the keys of each member so far
abbrev pub invariant-loop-member : goal.invariant-loop-member
invariant-loop-member l = l.keys.items ≡ map (test_keys_of l.genesis.members) (range_with_len 0 l.member)
