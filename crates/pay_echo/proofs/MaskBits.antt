-- The bits of a mask: how many are set, and one set more.
use Rattle.std.proofs.Common.{◌≡◌, ◌≢◌, ℕ, ◌<◌, ◌^◌, Bool, true, false, cond, eqb, length, map, ap, ◌∙◌, sym, subst, arith, inl, inr}
use Rattle.std.specs.Prelude.{count_ones}
use Rattle.std.specs.Int.{bit_at}
use Rattle.std.specs.List.{range_with_len}
use Rattle.std.proofs.lemmas.Bool.{cases_eq, eq-eqb, ne_eqb, cond-true, cond-false}
use Rattle.std.proofs.lemmas.List.FromFn.{length-map-range_with_len, get_or-map-range_with_len}
use Rattle.std.proofs.lemmas.Nat.{pow_below}
use Rattle.std.proofs.lemmas.Nat.Bits.{bit_at_or, bit_at-pow_same, bit_at-pow_other, bit_at-lt, same_from_bits_below, bit_at_above}
use Rattle.std.proofs.lemmas.Simd.{mask_l-lt, bit_mask_l, ones-mask_l}
use lib.Count.{ones}
use lib.Lanes.{mask_l}
use Rattle.pay_echo.specs.Broadcast.{size}
use Rattle.pay_echo.specs.Masks.{has, with_process}

bit_of_test : (b : ℕ) → b < 2 → cond (eqb b 1) 1 0 ≡ b
bit_of_test b h =
    elim (cases_eq b 1) [
      | inl e ↦ cond-true (eqb b 1) 1 0 (eq-eqb b 1 e) ∙ sym e
      | inr ne ↦ (let none : b ≡ 0 = omega arith in cond-false (eqb b 1) 1 0 (ne_eqb b 1 ne) ∙ sym none)
    ]

-- a mask is that of the list of its bits
mask_of_bits : (members mask : ℕ) → mask < 2 ^ members → mask ≡ mask_l (map (has mask) (range_with_len 0 members))
mask_of_bits members mask h =
    let bools = map (has mask) (range_with_len 0 members) in
    let long : length bools ≡ members = length-map-range_with_len (has mask) 0 members in
    let below : mask_l bools < 2 ^ members = subst (λ n. mask_l bools < 2 ^ n) long (mask_l-lt bools) in
    same_from_bits_below members mask (mask_l bools) h below
    (λ i small.
    sym (bit_of_test (bit_at mask i) (bit_at-lt mask i))
    ∙ ap (λ (b : Bool). cond b 1 0) (sym (get_or-map-range_with_len (has mask) 0 members i i false small (omega arith)))
    ∙ sym (bit_mask_l bools i))

pub counts_are_sizes : (members mask : ℕ) → mask < 2 ^ members → count_ones mask ≡ size members (has mask)
unfolding size
counts_are_sizes members mask h = ap count_ones (mask_of_bits members mask h) ∙ ones-mask_l (has mask) (range_with_len 0 members)

-- ---- one process more

pub has-with_same : (mask process : ℕ) → has (with_process mask process) process ≡ true
has-with_same mask process =
    let here = bit_at-pow_same process in
    let both = bit_at_or mask (2 ^ process) process in
    let low = bit_at-lt mask process in
    eq-eqb (bit_at (with_process mask process) process) 1 (omega arith)

pub has-with_other : (mask process p : ℕ) → p ≢ process → has (with_process mask process) p ≡ has mask p
has-with_other mask process p ne =
    let none = bit_at-pow_other process p ne in
    let both = bit_at_or mask (2 ^ process) p in
    let same : bit_at (with_process mask process) p ≡ bit_at mask p = omega arith in
    ap (λ b. eqb b 1) same

pub has-none : (p : ℕ) → has 0 p ≡ false
has-none p = ne_eqb (bit_at 0 p) 1 (λ e. let none = bit_at_above 0 0 p (omega arith) (omega arith) in omega arith)

pub pow_pos : (k : ℕ) → 0 < 2 ^ k
pow_pos k = grind (arith, pow_below)
