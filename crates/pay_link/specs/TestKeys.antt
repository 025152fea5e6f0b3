-- Keys that anyone can name, for tests, the simulator and examples.
use Rattle.std.specs.Prelude.{ℕ, ◌==◌, min, max, List, [], ◌∷◌, ◌++◌, map, replicate, if◌then◌else◌}
use Rattle.std.specs.List.{range_with_len}
use Rattle.pay_link.specs.Keys.{KeyFields, no_key}

-- the key of a pair of members: zeros, the lesser of the two, the greater
abbrev pub pair_key : ℕ → ℕ → List ℕ
pair_key x y = replicate 30 0 ++ (min x y ∷ max x y ∷ [])

-- the key that a member keeps for another, and none for itself
abbrev pub test_key : ℕ → ℕ → List ℕ
test_key own p = if p == own then no_key else pair_key own p

-- the keys of one of `members` members
abbrev pub test_keys_of : ℕ → ℕ → KeyFields
test_keys_of members own = record {
  own = own;
  keys = map (test_key own) (range_with_len 0 members);
}
