-- What the values of notes are, beside those of payments.
use Rattle.std.proofs.Common.{◌≡◌, ℕ, ◌≤◌, arith, Bool, true, false, ◌&&◌, List, [], ◌∷◌, length, refl, sym, ◌∙◌, ap, inl, inr, Some, None}
use Rattle.std.specs.Prelude.{slice_index, ◌==◌}
use Rattle.std.specs.List.{list_all}
use Rattle.std.proofs.lemmas.Bool.{cases_Bool, cond-false, cond-true}
use Rattle.std.proofs.lemmas.Slice.Eq.{bytes_eq-Decides}
use Rattle.pay_book.specs.declared.payment.Entry.TheVariants.{Void}
use Rattle.pay_book.specs.declared.payment.TheConstants.{PAYMENT_LENGTH, PAYMENT_VERSION}
use Rattle.pay_book.specs.Payment.{entries_in, entry_of, is_several, names_payee, payment_value, payments_value}
use Rattle.pay_frame.specs.declared.limits.TheConstants.{GREATEST_VALUE}
use Rattle.pay_book.specs.declared.note.TheConstants.{MOST_NOTE}
use Rattle.pay_desk.specs.declared.command.Payments.{Payments}
use Rattle.pay_desk.specs.declared.command.Payments.TheVariants.{One, Several}
use Rattle.pay_desk.specs.Kept.{is_value}
use Rattle.pay_desk.specs.Laws.{KeptAnswersItsNote}
use Rattle.pay_book.specs.Notes.{note_value}
use Rattle.pay_desk.specs.Payments.{pairs_of, value_of_payments, if_named}

first : List ℕ → ℕ
first value = slice_index value 0

note_first : (text : List ℕ) → slice_index (note_value text) 0 ≡ 3
unfolding note_value
note_first text = refl

-- the version of a payment is another
paid_first : (payments : Payments) → slice_index (value_of_payments payments) 0 ≡ 3 → ⊥
unfolding payment_value payments_value
paid_first (One to amount) is = cc
paid_first (Several pairs) is = cc

apart : (text : List ℕ) (payments : Payments) → value_of_payments payments ≡ note_value text → ⊥
apart text payments same = paid_first payments (ap (λ (v : List ℕ). slice_index v 0) same ∙ note_first text)

same_note : (one other : List ℕ) → note_value one ≡ note_value other → one ≡ other
unfolding note_value
same_note one other same = cc

pub short : (text value : List ℕ) → value ≡ note_value text → length text ≤ MOST_NOTE → length value ≤ GREATEST_VALUE
unfolding note_value
short text value is few =
    let long = ap length is in
    omega arith

equal : (value kept : List ℕ) → is_value (Some value) kept ≡ true → value ≡ kept
equal value kept is = (bytes_eq-Decides value kept).0 is

equal_if_named : (payments : Payments) (kept : List ℕ) → is_value (if_named payments (value_of_payments payments)) kept ≡ true → value_of_payments payments ≡ kept
equal_if_named payments kept is =
    elim (cases_Bool (list_all names_payee (pairs_of payments))) [
      | inl all ↦
          equal (value_of_payments payments) kept
          (sym (ap (λ o. is_value o kept) (cond-true (list_all names_payee (pairs_of payments)) (Some (value_of_payments payments)) None all)) ∙ is)
      | inr some ↦ absurd (
          let none = sym (ap (λ o. is_value o kept) (cond-false (list_all names_payee (pairs_of payments)) (Some (value_of_payments payments)) None some)) ∙ is in cc)
    ]

pub kept_answers_its_note : KeptAnswersItsNote
kept_answers_its_note = record {
  note = λ said again is. same_note again said (equal (note_value again) (note_value said) is);
  paid = λ said again is. apart said again (equal_if_named again (note_value said) is);
  said = λ asked again is. apart again asked (sym (equal (note_value again) (value_of_payments asked) is));
}
