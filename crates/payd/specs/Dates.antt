-- The date of a journal, as a word says it.
use Rattle.std.specs.Prelude.{◌≡◌, List, ℕ, Option, Some, None}
use Rattle.jiff.specs.Types.{Date}
use Rattle.pay_frame.specs.declared.engine.EngineFault.TheVariants as engine
use Rattle.pay_journal.specs.Journal.{IsDateWord}
use Rattle.payd.specs.declared.stop.Stop.{Stop}
use Rattle.payd.specs.declared.stop.Stop.TheVariants as stop

-- the date that a word is; without a word it is the clock's, about which nothing is known
abbrev pub IsDateSaid : Option (List ℕ) → Date → Type 0
IsDateSaid None date = Unit {0}
IsDateSaid (Some word) date = IsDateWord word date

-- why there is no date: the word is none, the clock gives none, or memory ran out
abbrev pub IsDateStop : Option (List ℕ) → Stop → Type 0
IsDateStop word (stop.Date named) =
    (word ≡ Some named.now) × ((date : Date) → ¬ (IsDateWord named.now date))
IsDateStop word stop.Clock = word ≡ None
IsDateStop word (stop.Engine fault) = fault ≡ engine.Memory
IsDateStop word _ = ⊥
