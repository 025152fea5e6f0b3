-- Payments that have one value are the same.
use Rattle.std.proofs.Common.{◌≡◌, ℕ, ◌<◌, ◌^◌, Bool, true, false, ◌&&◌, List, [], ◌∷◌, map, refl, sym, subst, ◌∙◌, ap, inl, inr, Some, None}
use Rattle.std.specs.Prelude.{nat_lt, All}
use Rattle.std.specs.List.{list_all}
use Rattle.std.specs.Str.{bytes_eq}
use Rattle.std.proofs.lemmas.Bool.{and_parts, cases_Bool, cond-true, cond-false, ltb-true}
use Rattle.std.proofs.lemmas.List.Elements.{All-nil, All-cons, All-head, All-tail}
use Rattle.std.proofs.lemmas.Slice.Eq.{bytes_eq-Decides}
use Rattle.pay_book.specs.declared.payment.Payment.{Payment}
use Rattle.pay_book.specs.Payment.{names_payee, payment_named}
use Rattle.pay_book.specs.Laws.{AreApart, FitsBytes}
use Rattle.pay_desk.specs.declared.command.Payments.{Payments}
use Rattle.pay_desk.specs.declared.command.Payments.TheVariants.{One, Several}
use Rattle.pay_desk.specs.Kept.{is_value}
use Rattle.pay_desk.specs.Laws.{AreOfLine, KeptAnswersItsOwn}
use Rattle.pay_desk.specs.Payments.{pairs_of, value_of_payments, if_named}

abbrev Pair : Type 0
Pair = ℕ × ℕ

abbrev AreNamed : Payments → Type 0
AreNamed payments = list_all names_payee (pairs_of payments) ≡ true

-- what is known of the two
named_first : (payments : Payments) → if_named payments (value_of_payments payments) ≡ Some (value_of_payments payments) → AreNamed payments
named_first payments is =
    elim (cases_Bool (list_all names_payee (pairs_of payments))) [
      | inl all ↦ all
      | inr some ↦ absurd (let none = sym (cond-false (list_all names_payee (pairs_of payments)) (Some (value_of_payments payments)) None some) ∙ is in cc)
    ]

same_value : (again : Payments) (value : List ℕ) → is_value (if_named again (value_of_payments again)) value ≡ true → AreNamed again × (value_of_payments again ≡ value)
same_value again value is =
    elim (cases_Bool (list_all names_payee (pairs_of again))) [
      | inl all ↦ (
          let found = cond-true (list_all names_payee (pairs_of again)) (Some (value_of_payments again)) None all in
          (all, (bytes_eq-Decides (value_of_payments again) value).0 (sym (ap (λ o. is_value o value) found) ∙ is)))
      | inr some ↦ absurd (
          let found = cond-false (list_all names_payee (pairs_of again)) (Some (value_of_payments again)) None some in
          let no = sym (ap (λ o. is_value o value) found) ∙ is in cc)
    ]

fit : (ps : List Pair) → list_all names_payee ps ≡ true → All (λ p. p.1 < 2 ^ 64) ps → All FitsBytes (map payment_named ps)
fit [] named small = All-nil FitsBytes
fit (p ∷ ps) named small =
    let both = and_parts (names_payee p) (list_all names_payee ps) named in
    All-cons FitsBytes (payment_named p) (map payment_named ps)
    (ltb-true p.0 (2 ^ 16) both.0, All-head (λ p. p.1 < 2 ^ 64) p ps small)
    (fit ps both.1 (All-tail (λ p. p.1 < 2 ^ 64) p ps small))

abbrev pair_back : Payment → Pair
pair_back p = (p.payee, p.amount)

pairs_back : (ps : List Pair) → map pair_back (map payment_named ps) ≡ ps
pairs_back [] = refl
pairs_back (p ∷ ps) = ap (λ (qs : List Pair). p ∷ qs) (pairs_back ps)

same_pairs : (ps qs : List Pair) → map payment_named ps ≡ map payment_named qs → ps ≡ qs
same_pairs ps qs same = sym (pairs_back ps) ∙ ap (map pair_back) same ∙ pairs_back qs

module _ (apart : AreApart) where
  by_values : (asked again : Payments) → All FitsBytes (map payment_named (pairs_of asked)) → All FitsBytes (map payment_named (pairs_of again))
      → value_of_payments again ≡ value_of_payments asked → again ≡ asked
  by_values (One to amount) (One to' amount') fits fits' same =
      let p : Payment = payment_named (to, amount) in
      let q : Payment = payment_named (to', amount') in
      let equal = apart.one q p (All-head FitsBytes q [] fits') (All-head FitsBytes p [] fits) same in
      ap (λ (x : Payment). One x.payee x.amount) equal
  by_values (One to amount) (Several ps) fits fits' same =
      absurd (apart.versions (payment_named (to, amount)) (map payment_named ps) (sym same))
  by_values (Several ps) (One to amount) fits fits' same =
      absurd (apart.versions (payment_named (to, amount)) (map payment_named ps) same)
  by_values (Several ps) (Several qs) fits fits' same =
      ap Several (same_pairs qs ps (apart.several (map payment_named qs) (map payment_named ps) fits' fits same))

  pub kept_answers_its_own : KeptAnswersItsOwn
  kept_answers_its_own asked again small small' first is =
      let equal = same_value again (value_of_payments asked) is in
      by_values asked again (fit (pairs_of asked) (named_first asked first) small) (fit (pairs_of again) equal.0 small') equal.1
