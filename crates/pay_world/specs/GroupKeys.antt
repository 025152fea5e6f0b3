-- The test keys of a whole group.
use Rattle.std.specs.Prelude.{ℕ, List, map}
use Rattle.std.specs.List.{range_with_len}
use Rattle.pay_link.specs.Keys.{KeyFields}
use Rattle.pay_link.specs.TestKeys.{test_keys_of}

-- each member's test keys, at its place
abbrev pub group_test_keys : ℕ → List KeyFields
group_test_keys members = map (test_keys_of members) (range_with_len 0 members)
