-- How often a node connects to its peers, as a word gives it.
use Rattle.std.specs.Prelude.{◌≡◌, ℕ, ◌==◌, List, Option, Some, None, codes, option_and_then}
use Rattle.std.specs.Prelude.{if◌then◌else◌}
use Rattle.std.specs.Str.{bytes_eq}
use Rattle.pay_peers.specs.declared.backoff.Dials.{Dials}
use Rattle.pay_peers.specs.declared.backoff.Dials.TheVariants.{Usual, Counted, Always}
use Rattle.pay_text.specs.Numbers.{number_of}
use Rattle.payd.specs.declared.stop.Stop.{Stop}
use Rattle.payd.specs.declared.stop.Stop.TheVariants as stop

-- this count, if it is at least one
abbrev pub dials_of_count : ℕ → Option Dials
dials_of_count count = if count == 0 then None else Some (Counted count)

-- what a word gives: dials without end, or a count of them; nothing if it is neither
abbrev pub dials_by : List ℕ → Option Dials
dials_by word =
    if bytes_eq word (codes "always") then Some Always
    else option_and_then dials_of_count (number_of word)

-- without a word the usual dials
abbrev pub dials_in : Option (List ℕ) → Option Dials
dials_in None = Some Usual
dials_in (Some word) = dials_by word

-- the program stops because a word gives no dials
abbrev pub IsDialsStop : Option (List ℕ) → Stop → Type 0
IsDialsStop word (stop.Dials named) = (word ≡ Some named.now) × (dials_by named.now ≡ None)
IsDialsStop word _ = ⊥
