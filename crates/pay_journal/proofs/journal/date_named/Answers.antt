use Rattle.std.proofs.Common.{◌≡◌, ◌∙◌, sym, arith}
use Rattle.std.proofs.lemmas.Grind.{common_steps}
use Rattle.std.proofs.lemmas.Int.{ints}
use Rattle.pay_journal.specs.Journal.{IsDateWord}
use Rattle.pay_journal.proofs.DateLemmas.{none_read, other_text, read_again}
use Rattle.pay_journal.proofs.journal.date_named.Goals.{else-eq-via-then-eq+else-year-ge-FIRST_YEAR, else-eq-via-else-eq}
use Rattle.pay_journal.proofs.journal.date_named.Goals as goal

pub returns-in_default-clause-none : goal.returns-in_default-clause-none
returns-in_default-clause-none c =
    none_read c.args.word.now c.in_default.field-0 (rw c.in_default.is at c.parse.ensures.value)

pub returns-clause-none : goal.returns-clause-none
returns-clause-none c date is =
    let again : IsDateWord c.args.word.now c.in-Ok.date = read_again c.args.word.now c.in-Ok.date (rw c.in-Ok.is at c.parse.ensures.value) date is in
    let text : c.as_str.result.now ≡ c.args.word.now = c.as_str.ensures.value ∙ c.in_ok-text.ensures.ok ∙ sym again.0 in
    elim c.else-eq.branch [
      | else-eq-via-then-eq+else-year-ge-FIRST_YEAR w ↦ omega (arith, ints, again.1, w.year.ensures, w.if-year-ge-FIRST_YEAR.false)
      | else-eq-via-else-eq w ↦ other_text c.as_str.result.now c.args.word.now (sym c.eq.ensures ∙ w.if-eq.false) text
    ]

pub returns-then-year-ge-FIRST_YEAR-clause-date : goal.returns-then-year-ge-FIRST_YEAR-clause-date
returns-then-year-ge-FIRST_YEAR-clause-date c = grind (arith, common_steps)

pub returns-then-year-ge-FIRST_YEAR-clause-none : goal.returns-then-year-ge-FIRST_YEAR-clause-none
returns-then-year-ge-FIRST_YEAR-clause-none c = grind (arith, common_steps)
