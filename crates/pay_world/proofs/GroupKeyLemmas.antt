-- The test keys of a group, place by place.
use Rattle.std.proofs.Common.{◌≡◌, ℕ, ◌+◌, ◌<◌, List, [], ◌∷◌, ◌++◌, length, map, slice_get, Some, sym, ap, ◌∙◌, subst, arith}
use Rattle.std.specs.List.{range_with_len}
use Rattle.std.proofs.lemmas.List.FromFn.{map-range_with_len_more, length-map-range_with_len, get_or-map-range_with_len}
use Rattle.std.proofs.lemmas.Option.{slice_get_within, get_or_from_slice_get}
use Rattle.pay_link.specs.Genesis.{GenesisFields}
use Rattle.pay_link.specs.Keys.{KeyFields}
use Rattle.pay_link.specs.TestKeys.{test_keys_of}
use Rattle.pay_world.specs.GroupKeys.{group_test_keys}
use Rattle.pay_world.specs.World.{AreKeysOf}

-- one member's more
pub filled_more :
    (f : ℕ → KeyFields) (xs ys : List KeyFields) (n : ℕ) (k : KeyFields) →
    xs ≡ map f (range_with_len 0 n) → k ≡ f n → ys ≡ xs ++ k ∷ [] → ys ≡ map f (range_with_len 0 (n + 1))
filled_more f xs ys n k before is push =
    push ∙ ap (λ l. l ++ k ∷ []) before ∙ ap (λ x. map f (range_with_len 0 n) ++ x ∷ []) is ∙ sym (map-range_with_len_more f 0 n n (omega arith))

at_place : (n i : ℕ) (k : KeyFields) → slice_get (group_test_keys n) i ≡ Some k → k ≡ test_keys_of n i
at_place n i k is =
    let inside : i < n = subst (λ m. i < m) (length-map-range_with_len (test_keys_of n) 0 n) (slice_get_within (group_test_keys n) i k is) in
    sym (get_or_from_slice_get (group_test_keys n) i k k is) ∙ get_or-map-range_with_len (test_keys_of n) 0 n i i k inside (omega arith)

pub test_keys_are : (g : GenesisFields) → AreKeysOf g (group_test_keys g.members)
test_keys_are g = record {
  one_for_each = length-map-range_with_len (test_keys_of g.members) 0 g.members;
  own = λ i k is. ap (λ (x : KeyFields). x.own) (at_place g.members i k is);
  of = λ i k is. ap (λ (x : KeyFields). length x.keys) (at_place g.members i k is) ∙ all i;
} where
  all : (i : ℕ) → length (test_keys_of g.members i).keys ≡ g.members
  all i = length-map-range_with_len _ 0 g.members
