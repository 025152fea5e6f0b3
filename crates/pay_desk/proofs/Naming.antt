-- What payments by numbers are, where values can name all payees.
use Rattle.std.proofs.Common.{◌≡◌, ℕ, ◌<◌, ◌≤◌, ◌^◌, [], ◌∷◌, true, List, length, map, refl, sym, ◌∙◌, ap, arith, inl, inr, Some, None}
use Rattle.std.specs.List.{list_all}
use Rattle.std.proofs.lemmas.Bool.{and_from, and_parts, cases_Bool, cond-true, cond-false, ltb-true, lt-ltb}
use Rattle.std.proofs.lemmas.List.{length-map}
use Rattle.pay_book.specs.declared.payment.Payment.{Payment}
use Rattle.pay_book.specs.declared.payment.TheConstants.{MOST_PAYMENTS}
use Rattle.pay_book.specs.Payment.{names_payee, payment_named, payments_named, payments_value}
use Rattle.pay_desk.specs.declared.fault.DeskFault.TheVariants.{NoAccount}
use Rattle.pay_desk.specs.declared.command.Payments.{Payments}
use Rattle.pay_desk.specs.declared.command.Payments.TheVariants.{Several}
use Rattle.pay_desk.specs.Payments.{if_named, pairs_of, value_of_payments}
use Rattle.pay_desk.specs.Answers.{is_account, pay_fault}

named : (pairs : List (ℕ × ℕ)) (payments : List Payment) → Some payments ≡ payments_named pairs
    → (list_all names_payee pairs ≡ true) × (payments ≡ map payment_named pairs)
unfolding payments_named
named pairs payments is =
    elim (cases_Bool (list_all names_payee pairs)) [
      | inl all ↦ (all, let same = is ∙ cond-true (list_all names_payee pairs) _ _ all in cc)
      | inr some ↦ absurd (let none = is ∙ cond-false (list_all names_payee pairs) _ _ some in cc)
    ]

pub not_named : (pairs : List (ℕ × ℕ)) → None ≡ payments_named pairs → None ≡ if_named (Several pairs) (value_of_payments (Several pairs))
unfolding payments_named
not_named pairs is =
    elim (cases_Bool (list_all names_payee pairs)) [
      | inl all ↦ absurd (let some = is ∙ cond-true (list_all names_payee pairs) _ _ all in cc)
      | inr some ↦ sym (cond-false (list_all names_payee pairs) _ _ some)
    ]

pub named_few : (pairs : List (ℕ × ℕ)) (payments : List Payment) → length pairs ≤ MOST_PAYMENTS → Some payments ≡ payments_named pairs
    → length payments ≤ MOST_PAYMENTS
named_few pairs payments few is =
    let same = ap length (named pairs payments is).1 in
    let long = length-map pairs payment_named in
    omega arith

pub named_value : (pairs : List (ℕ × ℕ)) (payments : List Payment) (value : List ℕ) → Some payments ≡ payments_named pairs
    → value ≡ payments_value payments → Some value ≡ if_named (Several pairs) (value_of_payments (Several pairs))
named_value pairs payments value is written =
    let all = named pairs payments is in
    ap Some (written ∙ ap payments_value all.1) ∙ sym (cond-true (list_all names_payee pairs) _ _ all.0)

-- a payee that is an account can be named
accounts_named : (accounts : ℕ) (pairs : List (ℕ × ℕ)) → accounts < 2 ^ 16 → list_all (is_account accounts) pairs ≡ true → list_all names_payee pairs ≡ true
accounts_named accounts [] small all = refl
accounts_named accounts (p ∷ pairs) small all =
    let both = and_parts (is_account accounts p) (list_all (is_account accounts) pairs) all in
    let less : p.0 < accounts = ltb-true p.0 accounts both.0 in
    and_from (names_payee p) (list_all names_payee pairs) (lt-ltb p.0 (2 ^ 16) (omega arith)) (accounts_named accounts pairs small both.1)

-- so where one can't, some payee is no account
pub unnamed_is_no_account : (accounts own : ℕ) (payments : Payments) → accounts < 2 ^ 16 → None ≡ if_named payments (value_of_payments payments)
    → pay_fault accounts own (pairs_of payments) ≡ Some NoAccount
unnamed_is_no_account accounts own payments small none =
    elim (cases_Bool (list_all (is_account accounts) (pairs_of payments))) [
      | inl all ↦ (
          let some = cond-true (list_all names_payee (pairs_of payments)) (Some (value_of_payments payments)) None (accounts_named accounts (pairs_of payments) small all) in
          let bad : None ≡ Some (value_of_payments payments) = none ∙ some in absurd cc)
      | inr out ↦ cond-false (list_all (is_account accounts) (pairs_of payments)) _ _ out
    ]
