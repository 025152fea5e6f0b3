-- Words that are dates, by what is read of them.
use Rattle.std.proofs.Common.{◌≡◌, ℕ, List, Result, Ok, Err, pos, ◌≤ℤ◌, ap, ◌∙◌, arith, false}
use Rattle.std.specs.Str.{bytes_eq}
use Rattle.std.proofs.lemmas.Slice.Eq.{bytes_eq-Decides}
use Rattle.jiff.specs.Types.{Date}
use Rattle.jiff.specs.Words.{Error, date_parts, date_text, date_view, parse_date}
use Rattle.jiff.proofs.Family.{parse_date-date_text}
use Rattle.pay_journal.specs.Journal.{IsDateWord}

parse_date-word : (word : List ℕ) (date : Date) → word ≡ date_text date → parse_date word ≡ Ok (date_parts date)
parse_date-word word date is = ap parse_date is ∙ parse_date-date_text date

-- what is no date's text isn't read as one
pub none_read : (word : List ℕ) (error : Error) → date_view (Err error) ≡ parse_date word → (date : Date) → ¬ (IsDateWord word date)
none_read word error read date is = let ok = parse_date-word word date is.0 in cc

same_part : {A B : Type 0} (x y : A) → x ≡ y → (part : A → B) → part x ≡ part y
same_part x y same part = ap part same

-- what is read of a date's text is that date
pub read_again : (word : List ℕ) (d : Date) → date_view (Ok d) ≡ parse_date word → (date : Date) → IsDateWord word date → IsDateWord word d
read_again word d read date is =
    let ok = parse_date-word word date is.0 in
    let parts : date_parts d ≡ date_parts date = cc in
    let year : d.year ≡ date.year = same_part (date_parts d) (date_parts date) parts (λ p. p.year) in
    let month : d.month ≡ date.month = same_part (date_parts d) (date_parts date) parts (λ p. p.month) in
    let day : d.day ≡ date.day = same_part (date_parts d) (date_parts date) parts (λ p. p.day) in
    (is.0 ∙ rw (year, month, day), rw year is.1)

-- texts that differ are not equal
pub other_text : (xs ys : List ℕ) → bytes_eq xs ys ≡ false → xs ≡ ys → ⊥
other_text xs ys test same = grind (arith, bytes_eq-Decides xs ys)
