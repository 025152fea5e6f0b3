-- The pipelining depth of a node, as a word gives it.
use Rattle.std.specs.Prelude.{◌≡◌, ℕ, ◌&&◌, nat_le, nat_lt, List, Option, Some, None}
use Rattle.std.specs.Prelude.{option_and_then, if◌then◌else◌}
use Rattle.pay_text.specs.Numbers.{number_of}
use Rattle.payd.specs.declared.stop.Stop.{Stop}
use Rattle.payd.specs.declared.stop.Stop.TheVariants as stop

-- a pipelining depth of this count, if it is allowed
abbrev pub ahead_within : ℕ → Option ℕ
ahead_within count = if nat_lt 0 count && nat_le count 1024 then Some count else None

-- the pipelining depth that a word gives, or nothing if it gives none
abbrev pub ahead_by : List ℕ → Option ℕ
ahead_by word = option_and_then ahead_within (number_of word)

-- without a word the usual depth
abbrev pub ahead_in : Option (List ℕ) → Option ℕ
ahead_in None = Some 256
ahead_in (Some word) = ahead_by word

-- the program stops because a word gives no pipelining depth
abbrev pub IsAheadStop : Option (List ℕ) → Stop → Type 0
IsAheadStop word (stop.Ahead named) = (word ≡ Some named.now) × (ahead_by named.now ≡ None)
IsAheadStop word _ = ⊥
