-- Words that would not stay in their line if they are printed or sent.
use Rattle.std.specs.Prelude.{ℕ, Bool, ◌||◌, ◌==◌, nat_lt, List}
use Rattle.std.specs.List.{list_any}

-- a control character of ASCII
abbrev pub is_control : ℕ → Bool
is_control byte = nat_lt byte 32 || (byte == 127)

abbrev pub has_control : List ℕ → Bool
has_control word = list_any is_control word
