-- What is seen of a node's process, and how often.
use Rattle.std.specs.Prelude.{◌≡◌, ℕ, ◌++◌, List, Some, codes}
use Rattle.std.specs.Str.{trim}
use Rattle.pay_text.specs.Numbers.{number_of}

-- a line of the system says that `count` kibibytes are resident, such as `VmRSS:    1234 kB`
abbrev pub SaysKibibytes : List ℕ → ℕ → Type 0
SaysKibibytes line count =
    (word : List ℕ) × (line ≡ codes "VmRSS:" ++ word ++ codes " kB")
    × (number_of (trim word) ≡ Some count)

-- the interval between two looks at a node: a second
abbrev pub look_nanos : ℕ
look_nanos = 1000000000
