-- Counts that devices keep, and what went out of them.
use Rattle.std.specs.Prelude.{◌≡◌, ℕ, ◌+◌, ◌-◌, ◌^◌, ◌≤◌, ◌⊎◌, List, length, min, take, is_ok}
use Rattle.std.specs.Prelude.{if◌then◌else◌, Option, Result}
use Rattle.std.specs.Io.KnownBytes.{Appends, Consumes}

-- the greatest count: a count that reaches it no longer rises
abbrev pub greatest_count : ℕ
greatest_count = 2 ^ 64 - 1

abbrev pub next_count : ℕ → ℕ
next_count n = min (n + 1) greatest_count

-- a count of failures rises if a call failed, and otherwise stays
abbrev pub failures_after : {X E : Type 0} → ℕ → Result X E → ℕ
failures_after n r = if is_ok r then n else next_count n

-- A count has risen by `n`. A count at the greatest value passes as risen.
abbrev pub RoseBy : ℕ → ℕ → ℕ → Type 0
RoseBy n old new = (old + n ≤ new) ⊎ (new ≡ greatest_count)

-- at least `count` bytes were taken from an input
abbrev pub Gave : ℕ → Option (List ℕ) → Option (List ℕ) → Type 0
Gave count before after = (bytes : List ℕ) × Consumes before after bytes × (count ≤ length bytes)

-- what was written, if it is known: a prefix of the text
pub record WroteBeginning (old new : Option (List ℕ)) (text : List ℕ) : Type 0 where
  pub count : ℕ
  pub within : count ≤ length text
  pub written : Appends old new (take count text)
