-- The words of a line.
use Rattle.std.specs.Prelude.{◌≡◌, ⊤, ℕ, ◌==◌, Bool, List, [], ◌∷◌, ◌++◌, if◌then◌else◌, Option}
use Rattle.std.specs.Prelude.{Some, None, true, false}

-- the code of a blank
abbrev pub blank : ℕ
blank = 32

-- a byte in front of the first of some parts
abbrev pub onto_first : ℕ → List (List ℕ) → List (List ℕ)
onto_first b [] = (b ∷ []) ∷ []
onto_first b (part ∷ parts) = (b ∷ part) ∷ parts

-- The texts between the blanks of a line. Two blanks beside each other, and a blank at an end, have
-- an empty word there. A line without a blank is one word.
-- page: `words_of`, `number_of`, `lines_of`: words, numbers and lines [as commands have
--   them](commands.md). Words may be empty, the last line may lack its line feed, and a line over
--   its bound is nothing (`within`)
unfoldable pub words_of : List ℕ → List (List ℕ)
words_of [] = [] ∷ []
words_of (b ∷ bytes) = if b == blank then [] ∷ words_of bytes else onto_first b (words_of bytes)

-- words with one blank between two of them
unfoldable pub joined_words : List ℕ → List (List ℕ) → List ℕ
joined_words word [] = word
joined_words word (next ∷ words) = word ++ blank ∷ joined_words next words

-- the words of what is left of a line; there are none if nothing is left, not even an empty word
abbrev pub words_in : Option (List ℕ) → List (List ℕ)
words_in None = []
words_in (Some rest) = words_of rest

-- the first word, if there is one
abbrev pub first_word : List (List ℕ) → Option (List ℕ)
first_word [] = None
first_word (word ∷ words) = Some word

-- no word
abbrev pub is_none : List (List ℕ) → Bool
is_none [] = true
is_none (word ∷ words) = false

-- no blank is among the bytes
abbrev pub IsWord : List ℕ → Type 0
IsWord [] = ⊤
IsWord (b ∷ bytes) = ((b == blank) ≡ false) × IsWord bytes

-- each is a word
abbrev pub AreWords : List (List ℕ) → Type 0
AreWords [] = ⊤
AreWords (word ∷ words) = IsWord word × AreWords words
