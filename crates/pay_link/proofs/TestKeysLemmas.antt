-- The test keys of two members for each other are the same.
use Rattle.std.proofs.Common.{◌≡◌, ℕ, ◌<◌, ◌==◌, min, max, sym, ◌∙◌, arith, refl}
use Rattle.std.proofs.lemmas.Bool.Decides.{Decides-eqb, Decides-like, same_from_decides}
use Rattle.std.proofs.lemmas.List.FromFn.{get_or-map-range_with_len}
use Rattle.pay_link.specs.Keys.{key_for, no_key}
use Rattle.pay_link.specs.TestKeys.{test_key, test_keys_of}

eqb_comm : (x y : ℕ) → (x == y) ≡ (y == x)
eqb_comm x y = same_from_decides _ _ (Decides-eqb x y) (Decides-like _ sym sym (Decides-eqb y x))

test_key_comm : (x y : ℕ) → test_key x y ≡ test_key y x
test_key_comm x y =
    let least : min x y ≡ min y x = omega arith in
    let greatest : max x y ≡ max y x = omega arith in
    rw (eqb_comm y x, least, greatest) refl

key_for-test_keys_of : (members x y : ℕ) → y < members → key_for (test_keys_of members x) y ≡ test_key x y
key_for-test_keys_of members x y h = get_or-map-range_with_len (test_key x) 0 members y y no_key h (omega arith)

pub shared_test_keys_law : (members x y : ℕ) → x < members → y < members →
    key_for (test_keys_of members x) y ≡ key_for (test_keys_of members y) x
shared_test_keys_law members x y below_x below_y =
    key_for-test_keys_of members x y below_y ∙ test_key_comm x y ∙ sym (key_for-test_keys_of members y x below_x)
