-- Numbers at the front of bytes, and what stands after them.
use Rattle.std.proofs.Common.{◌≡◌, ℕ, ◌+◌, ◌*◌, ◌%◌, ◌/◌, ◌^◌, ◌<◌, ◌≤◌, ◌==◌, Bool, true, false, List, ◌++◌, refl, sym, ap, ◌∙◌, arith}
use Rattle.std.specs.Int.{w16, w32, w64, to_be_bytes, from_be_bytes}
use Rattle.std.proofs.lemmas.Nat.{from_be_bytes-to_be_bytes_2, from_be_bytes-to_be_bytes_4, from_be_bytes-to_be_bytes_8}
use Rattle.pay_record.specs.Records.{bit_of}

pub two_same : (n m : ℕ) (x y : List ℕ) → n < 2 ^ 16 → m < 2 ^ 16 → to_be_bytes w16 n ++ x ≡ to_be_bytes w16 m ++ y → n ≡ m
two_same n m x y small_n small_m same =
    sym (from_be_bytes-to_be_bytes_2 n small_n) ∙ ap (λ (l : List ℕ). from_be_bytes w16 l) same ∙ from_be_bytes-to_be_bytes_2 m small_m

pub four_same : (n m : ℕ) (x y : List ℕ) → n < 2 ^ 32 → m < 2 ^ 32 → to_be_bytes w32 n ++ x ≡ to_be_bytes w32 m ++ y → n ≡ m
four_same n m x y small_n small_m same =
    sym (from_be_bytes-to_be_bytes_4 n small_n) ∙ ap (λ (l : List ℕ). from_be_bytes w32 l) same ∙ from_be_bytes-to_be_bytes_4 m small_m

pub eight_same : (n m : ℕ) (x y : List ℕ) → n < 2 ^ 64 → m < 2 ^ 64 → to_be_bytes w64 n ++ x ≡ to_be_bytes w64 m ++ y → n ≡ m
eight_same n m x y small_n small_m same =
    sym (from_be_bytes-to_be_bytes_8 n small_n) ∙ ap (λ (l : List ℕ). from_be_bytes w64 l) same ∙ from_be_bytes-to_be_bytes_8 m small_m

-- ---- three bits

abbrev pub bits : Bool → Bool → Bool → ℕ
bits a b c = bit_of a + 2 * bit_of b + 4 * bit_of c

pub bits_small : (a b c : Bool) → bits a b c ≤ 7
bits_small false false false = omega arith
bits_small false false true = omega arith
bits_small false true false = omega arith
bits_small false true true = omega arith
bits_small true false false = omega arith
bits_small true false true = omega arith
bits_small true true false = omega arith
bits_small true true true = omega arith

abbrev first_in : ℕ → Bool
first_in n = n % 2 == 1

abbrev second_in : ℕ → Bool
second_in n = n / 2 % 2 == 1

abbrev third_in : ℕ → Bool
third_in n = n / 4 == 1

first_of : (a b c : Bool) → first_in (bits a b c) ≡ a
first_of false false false = refl
first_of false false true = refl
first_of false true false = refl
first_of false true true = refl
first_of true false false = refl
first_of true false true = refl
first_of true true false = refl
first_of true true true = refl

second_of : (a b c : Bool) → second_in (bits a b c) ≡ b
second_of false false false = refl
second_of false false true = refl
second_of false true false = refl
second_of false true true = refl
second_of true false false = refl
second_of true false true = refl
second_of true true false = refl
second_of true true true = refl

third_of : (a b c : Bool) → third_in (bits a b c) ≡ c
third_of false false false = refl
third_of false false true = refl
third_of false true false = refl
third_of false true true = refl
third_of true false false = refl
third_of true false true = refl
third_of true true false = refl
third_of true true true = refl

-- the sum says each of them
pub bits_same : (a b c x y z : Bool) → bits a b c ≡ bits x y z → (a ≡ x) × (b ≡ y) × (c ≡ z)
bits_same a b c x y z same = (
  sym (first_of a b c) ∙ ap first_in same ∙ first_of x y z,
  sym (second_of a b c) ∙ ap second_in same ∙ second_of x y z,
  sym (third_of a b c) ∙ ap third_in same ∙ third_of x y z,
)
