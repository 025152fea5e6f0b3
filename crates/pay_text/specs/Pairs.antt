-- Pairs of numbers in a line.
use Rattle.std.specs.Prelude.{ℕ, nat_lt, nat_le, ◌&&◌, List, [], ◌∷◌, length, if◌then◌else◌, Option}
use Rattle.std.specs.Prelude.{Some, None, option_and_then, option_map}
use Rattle.pay_text.specs.Numbers.{number_of}

-- the pair that two words beside each other are, if both are numbers
abbrev pub pair_of : List ℕ → List ℕ → Option (ℕ × ℕ)
pair_of first second =
    option_and_then (λ m. option_map (λ n. (m, n)) (number_of second)) (number_of first)

abbrev pub first_pair : List (List ℕ) → Option (ℕ × ℕ)
first_pair [] = None
first_pair (word ∷ []) = None
first_pair (first ∷ second ∷ words) = pair_of first second

-- The pairs that the words are, if each word is part of a pair.
unfoldable pub pairs_of_words : List (List ℕ) → Option (List (ℕ × ℕ))
pairs_of_words [] = Some []
pairs_of_words (word ∷ []) = None
pairs_of_words (first ∷ second ∷ words) =
    option_and_then (λ pair. option_map (λ pairs. pair ∷ pairs) (pairs_of_words words))
    (pair_of first second)

-- the pairs, if there is at least one and at most `most`
abbrev pub if_within : ℕ → List (ℕ × ℕ) → Option (List (ℕ × ℕ))
if_within most pairs =
    if nat_lt 0 (length pairs) && nat_le (length pairs) most then Some pairs else None

unfoldable pub pairs_within : ℕ → List (List ℕ) → Option (List (ℕ × ℕ))
pairs_within most words = option_and_then (if_within most) (pairs_of_words words)
