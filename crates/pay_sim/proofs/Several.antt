-- How many payments are named by numbers.
use Rattle.std.proofs.Common.{◌≡◌, ℕ, ◌≤◌, List, length, map, ◌∙◌, ap, arith, inl, inr, Some}
use Rattle.std.specs.List.{list_all}
use Rattle.std.proofs.lemmas.Bool.{cases_Bool, cond-true, cond-false}
use Rattle.std.proofs.lemmas.List.{length-map}
use Rattle.pay_book.specs.declared.payment.Payment.{Payment}
use Rattle.pay_book.specs.Payment.{names_payee, payment_named, payments_named}

as_many : (pairs : List (ℕ × ℕ)) (payments : List Payment) → Some payments ≡ payments_named pairs → payments ≡ map payment_named pairs
unfolding payments_named
as_many pairs payments is =
    elim (cases_Bool (list_all names_payee pairs)) [
      | inl all ↦ (let same = is ∙ cond-true (list_all names_payee pairs) _ _ all in cc)
      | inr some ↦ absurd (let none = is ∙ cond-false (list_all names_payee pairs) _ _ some in cc)
    ]

pub few_named : (pairs : List (ℕ × ℕ)) (payments : List Payment) (most : ℕ) → length pairs ≤ most → Some payments ≡ payments_named pairs
    → length payments ≤ most
few_named pairs payments most few is =
    let same = ap length (as_many pairs payments is) in
    let long = length-map pairs payment_named in
    omega arith
