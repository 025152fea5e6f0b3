-- Numbers as words: decimal, without a sign, and with no zero in front of other digits.
use Rattle.std.specs.Prelude.{◌≡◌, ℕ, ◌<◌, ◌^◌, nat_lt, ◌&&◌, List, [], ◌∷◌, decimal, if◌then◌else◌}
use Rattle.std.specs.Prelude.{Option, Some, None}
use Rattle.std.specs.Str.{bytes_eq}
use Rattle.std.specs.Str.Parse.{digits_value}

-- this word is how a number of at most 64 bits is written
abbrev pub IsNumber : List ℕ → ℕ → Type 0
IsNumber word n = (word ≡ decimal n) × (n < 2 ^ 64)

-- The number that a word is, if it is one: the value of its digits, if the word is how that value
-- is written.
unfoldable pub number_of : List ℕ → Option ℕ
number_of word =
    if bytes_eq word (decimal (digits_value 10 word)) && nat_lt (digits_value 10 word) (2 ^ 64)
    then Some (digits_value 10 word)
    else None

-- the number that the first word is, if there is a first word and it is a number
abbrev pub first_number : List (List ℕ) → Option ℕ
first_number [] = None
first_number (word ∷ words) = number_of word
