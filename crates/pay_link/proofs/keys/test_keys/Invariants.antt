use Rattle.std.proofs.Common.{◌≡◌, map}
use Rattle.std.specs.List.{range_with_len}
use Rattle.pay_link.specs.TestKeys.{test_key}
use Rattle.pay_link.proofs.keys.test_keys.Given as goal

-- a key for each place so far
abbrev pub invariant-loop-place : goal.invariant-loop-place
invariant-loop-place l = l.keys.items ≡ map (test_key l.own) (range_with_len 0 l.place)
