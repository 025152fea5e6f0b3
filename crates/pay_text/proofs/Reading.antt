-- Numbers as words: writing and reading are inverse.
use Rattle.std.proofs.Common.{◌≡◌, ℕ, zero, suc, lit<, ◌<◌, ◌^◌, ◌≢◌, List, [], ◌∷◌, length, get_or, refl, sym, ◌∙◌, ap, subst, arith, true, false, decimal, Some, None, nat_lt}
use Rattle.std.specs.Prelude.{◌&&◌, Bool, cond, Option, MatchOption}
use Rattle.std.specs.Str.{bytes_eq}
use Rattle.std.specs.Str.Parse.{AllDigits, digits_value}
use Rattle.std.proofs.lemmas.Slice.Eq.{bytes_eq-Decides}
use Rattle.std.proofs.lemmas.Bool.Decides.{Decides-ltb}
use Rattle.std.proofs.lemmas.Str.Parse.{numerals_by_value, tells_digits}
use Rattle.std.proofs.lemmas.Fmt.{decimal_is_IsNumeral, decimal-digits_value, first_decimal, decimal_digit}
use Rattle.pay_text.specs.Numbers.{IsNumber, number_of}

-- a test of both, and what it decides
both : (a b : Bool) (n : ℕ) → a ≡ true → b ≡ true → cond (a && b) (Some n) None ≡ Some n
both true true n p q = refl
both true false n p q = absurd (cc)
both false b n p q = absurd (cc)

pub is_read : (word : List ℕ) (n : ℕ) → IsNumber word n → number_of word ≡ Some n
unfolding number_of
is_read word n (written, small) =
    let value : digits_value 10 word ≡ n = ap (digits_value 10) written ∙ (decimal_is_IsNumeral n small).1 in
    rw value (both (bytes_eq word (decimal n)) (nat_lt n (2 ^ 64)) n ((bytes_eq-Decides word (decimal n)).1 written) ((Decides-ltb n (2 ^ 64)).1 small))

is_both : (a b : Bool) (x n : ℕ) → cond (a && b) (Some x) None ≡ Some n → (a ≡ true) × (b ≡ true) × (x ≡ n)
is_both true true x n e = (refl, refl, cc)
is_both true false x n e = absurd (cc)
is_both false b x n e = absurd (cc)

pub is_written : (word : List ℕ) (n : ℕ) → number_of word ≡ Some n → IsNumber word n
unfolding number_of
is_written word n read =
    let found = is_both (bytes_eq word (decimal (digits_value 10 word))) (nat_lt (digits_value 10 word) (2 ^ 64)) (digits_value 10 word) n read in (
      (bytes_eq-Decides word (decimal (digits_value 10 word))).0 found.0 ∙ ap decimal found.2,
      subst (λ (m : ℕ). m < 2 ^ 64) found.2 ((Decides-ltb (digits_value 10 word) (2 ^ 64)).0 found.1),
    )

-- digits without a zero in front
pub digits_are : (word : List ℕ) → AllDigits 10 word → digits_value 10 word < 2 ^ 64 → 0 < length word → (get_or word 0 0 ≡ 48 → length word ≡ 1) → number_of word ≡ Some (digits_value 10 word)
digits_are word digits small some lead =
    is_read word (digits_value 10 word) (sym (decimal-digits_value (numerals_by_value (AllDigits 10) tells_digits) word digits some lead small), small)

none_of : (word : List ℕ) → ((n : ℕ) → number_of word ≢ Some n) → number_of word ≡ None
none_of word other = elim (number_of word) as (λ o. ((n : ℕ) → o ≢ Some n) → o ≡ None) [ Some n ↦ λ h. absurd (h n refl) | None ↦ λ h. refl ] other

-- what isn't all digits, or too large, is no number
pub not_digits : (word : List ℕ) → ¬ (AllDigits 10 word × (digits_value 10 word < 2 ^ 64)) → number_of word ≡ None
not_digits word other = none_of word (λ n e.
    let (written, small) = is_written word n e in
    let numeral = decimal_is_IsNumeral n small in
    other (subst (AllDigits 10) (sym written) numeral.0.1, subst (λ (m : ℕ). m < 2 ^ 64) (sym (ap (digits_value 10) written ∙ numeral.1)) small))

-- nor is the empty word
pub empty_is_none : number_of [] ≡ None
empty_is_none = none_of [] (λ n e.
    let (written, small) = is_written [] n e in
    let some = (decimal_is_IsNumeral n small).0.0 in
    omega (arith, ap length written))

leads : (word : List ℕ) (n : ℕ) → get_or word 0 0 ≡ 48 → 1 < length word → word ≡ decimal n → n < 2 ^ 64 → ⊥
leads word zero first long written small = omega (arith, ap length (written ∙ decimal_digit 0 (lit< tt)))
leads word (suc k) first long written small =
    omega (arith, first_decimal (suc k) (omega arith) small, sym (ap (λ (xs : List ℕ). get_or xs 0 0) written) ∙ first)

-- nor digits after a zero
pub zero_first_is_none : (word : List ℕ) → get_or word 0 0 ≡ 48 → 1 < length word → number_of word ≡ None
zero_first_is_none word first long = none_of word (λ n e.
    let (written, small) = is_written word n e in
    leads word n first long written small)

-- nor a word without bytes
pub no_bytes_is_none : (word : List ℕ) → length word ≡ 0 → number_of word ≡ None
no_bytes_is_none [] empty = empty_is_none
no_bytes_is_none (b ∷ bytes) empty = absurd (omega arith)

-- what the value of the digits says of a word with no zero in front
pub value_is : (word : List ℕ) (r : Option ℕ) → 0 < length word → (get_or word 0 0 ≡ 48 → length word ≡ 1)
    → MatchOption r (¬ (AllDigits 10 word × (digits_value 10 word < 2 ^ 64))) (λ n. AllDigits 10 word × (digits_value 10 word < 2 ^ 64) × (n ≡ digits_value 10 word)) → r ≡ number_of word
value_is word (Some n) some lead (digits, small, is) = ap (λ (m : ℕ). Some m) is ∙ sym (digits_are word digits small some lead)
value_is word None some lead other = sym (not_digits word other)
