-- Hexadecimal digits, and that a string of JSON has them as they are.
use Rattle.std.proofs.Common.{◌≡◌, ℕ, zero, suc, ◌/◌, ◌%◌, ◌<◌, ◌+◌, List, [], ◌∷◌, ◌++◌, length, take, slice_index, refl, ap, ap₂, sym, ◌∙◌, arith}
use Rattle.std.specs.Prelude.{⊤}
use Rattle.std.proofs.lemmas.List.{take_more}
use Rattle.json.specs.Print.{escape, escape_byte}
use Rattle.hex.specs.Hex.{IsBytes, encode_lower, encode_with, lower_digits}

-- none has an escape
abbrev Plain : List ℕ → Type 0
Plain [] = ⊤
Plain (x ∷ xs) = (escape_byte x ≡ x ∷ []) × Plain xs

plain_at : (xs : List ℕ) (k : ℕ) → Plain xs → k < length xs → escape_byte (slice_index xs k) ≡ slice_index xs k ∷ []
plain_at [] k plain within = absurd (omega arith)
plain_at (x ∷ xs) zero plain within = plain.0
plain_at (x ∷ xs) (suc k) plain within = plain_at xs k plain.1 (omega arith)

digits_plain : Plain lower_digits
unfolding escape_byte
digits_plain = (refl, (refl, (refl, (refl, (refl, (refl, (refl, (refl, (refl, (refl, (refl, (refl, (refl, (refl, (refl, (refl, tt))))))))))))))))

pub escape-encode_lower : (bytes : List ℕ) → IsBytes bytes → escape (encode_lower bytes) ≡ encode_lower bytes
unfolding encode_with
escape-encode_lower [] are = refl
escape-encode_lower (b ∷ rest) are =
    let fits : b < 256 = are 0 in
    ap₂ (λ x y. x ++ (y ++ escape (encode_lower rest)))
    (plain_at lower_digits (b / 16) digits_plain (omega arith)) (plain_at lower_digits (b % 16) digits_plain (omega arith))
    ∙ ap (λ t. slice_index lower_digits (b / 16) ∷ slice_index lower_digits (b % 16) ∷ t) (escape-encode_lower rest (λ k. are (suc k)))

encode_lower-append : (xs ys : List ℕ) → encode_lower xs ++ encode_lower ys ≡ encode_lower (xs ++ ys)
unfolding encode_with
encode_lower-append [] ys = refl
encode_lower-append (x ∷ xs) ys =
    ap (λ t. slice_index lower_digits (x / 16) ∷ slice_index lower_digits (x % 16) ∷ t) (encode_lower-append xs ys)

pub none_encoded : encode_lower [] ≡ []
unfolding encode_with
none_encoded = refl

-- one byte more, after the quote
pub next_digits : (bytes : List ℕ) (k : ℕ) → k < length bytes
    → (34 ∷ encode_lower (take k bytes)) ++ encode_lower (slice_index bytes k ∷ []) ≡ 34 ∷ encode_lower (take (k + 1) bytes)
next_digits bytes k within =
    ap (λ t. 34 ∷ t) (encode_lower-append (take k bytes) (slice_index bytes k ∷ []) ∙ ap encode_lower (sym (take_more bytes k 0 within)))

-- with the quote after them
pub all_digits : (bytes : List ℕ) (k : ℕ) → IsBytes bytes → take k bytes ≡ bytes
    → (34 ∷ encode_lower (take k bytes)) ++ 34 ∷ [] ≡ 34 ∷ (escape (encode_lower bytes) ++ 34 ∷ [])
all_digits bytes k are all =
    ap (λ t. 34 ∷ (encode_lower t ++ 34 ∷ [])) all ∙ ap (λ t. 34 ∷ (t ++ 34 ∷ [])) (sym (escape-encode_lower bytes are))
