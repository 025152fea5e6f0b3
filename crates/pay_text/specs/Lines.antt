-- The lines of a text.
use Rattle.std.specs.Prelude.{ℕ, ◌==◌, nat_le, List, [], ◌∷◌, length, map, if◌then◌else◌, Option}
use Rattle.std.specs.Prelude.{Some, None}
use Rattle.pay_text.specs.Words.{onto_first}

-- the code of a line feed
abbrev pub line_feed : ℕ
line_feed = 10

-- The lines of a text: the text before each line feed, and the text after the last one unless it is
-- empty.
unfoldable pub lines_of : List ℕ → List (List ℕ)
lines_of [] = []
lines_of (b ∷ bytes) = if b == line_feed then [] ∷ lines_of bytes else onto_first b (lines_of bytes)

-- a line of at most `bound` bytes, and nothing for a longer line
unfoldable pub within : ℕ → List ℕ → Option (List ℕ)
within bound line = if nat_le (length line) bound then Some line else None

-- the lines of a text, each with this bound
abbrev pub lines_within : ℕ → List ℕ → List (Option (List ℕ))
lines_within bound text = map (within bound) (lines_of text)
