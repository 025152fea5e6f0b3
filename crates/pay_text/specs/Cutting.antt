-- A text that is cut into lines while it arrives.
use Rattle.std.specs.Prelude.{ℕ, ◌==◌, nat_lt, Bool, true, false, List, [], ◌∷◌, ◌++◌, length}
use Rattle.std.specs.Prelude.{if◌then◌else◌, Option, Some, None}
use Rattle.pay_text.specs.Lines.{line_feed}

-- The bound of lines, and the line that has begun, as far as it has arrived. It is nothing if it is
-- over the bound.
pub record Begun : Type 0 where
  pub bound : ℕ
  pub line : Option (List ℕ)

-- the line that has begun, with one byte more
unfoldable pub line_with_byte : ℕ → Option (List ℕ) → ℕ → Option (List ℕ)
line_with_byte bound None b = None
line_with_byte bound (Some line) b =
    if nat_lt (length line) bound then Some (line ++ b ∷ []) else None

-- nothing of a line has come
abbrev pub is_nothing : Option (List ℕ) → Bool
is_nothing None = false
is_nothing (Some []) = true
is_nothing (Some (b ∷ line)) = false

-- a line that has begun counts as a line, unless nothing of it has come
abbrev pub last_line : Option (List ℕ) → List (Option (List ℕ))
last_line None = None ∷ []
last_line (Some []) = []
last_line (Some (b ∷ line)) = Some (b ∷ line) ∷ []

-- the lines that these bytes complete, if a line has begun
unfoldable pub lines_after : ℕ → Option (List ℕ) → List ℕ → List (Option (List ℕ))
lines_after bound begun [] = last_line begun
lines_after bound begun (b ∷ bytes) =
    if b == line_feed then begun ∷ lines_after bound (Some []) bytes
    else lines_after bound (line_with_byte bound begun b) bytes
