-- The time at which a node saw entries settle, as a line of its folder's file.
use Rattle.std.specs.Prelude.{◌≡◌, ℕ, List, ◌++◌, codes}
use Rattle.jiff.specs.Names.{iso_datetime_text}
use Rattle.jiff.specs.Types.{DateTime}
use Rattle.pay_desk.specs.Words.{end_of_line, number_words}

-- A moment without its fraction of a second.
pub record IsInSeconds (now moment : DateTime) : Type 0 where
  pub date : moment.date ≡ now.date
  pub hour : moment.time.hour ≡ now.time.hour
  pub minute : moment.time.minute ≡ now.time.minute
  pub second : moment.time.second ≡ now.time.second
  pub whole : moment.time.subsec_nanosecond ≡ 0

-- A moment of the clock in UTC, in the form of RFC 3339, and all fronts then: a line such as
-- `2026-11-29T13:20:09Z 3 0 1 0`.
abbrev pub times_words : DateTime → List ℕ → List ℕ
times_words moment fronts =
    iso_datetime_text moment ++ codes "Z" ++ number_words fronts ++ end_of_line
