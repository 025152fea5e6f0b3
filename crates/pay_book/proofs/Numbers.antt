-- Payments by numbers, where values can name all payees, and where one they can't.
use Rattle.std.proofs.Common.{◌≡◌, ℕ, suc, zero, ◌<◌, ◌≤◌, ◌^◌, Bool, true, false, ◌&&◌, ltb, List, [], ◌∷◌, length, map, get_or, take, Some, None, refl, sym, ap, ◌∙◌, arith, rules, tests}
use Rattle.std.specs.List.{list_all}
use Rattle.std.proofs.lemmas.Bool.{cond-true, cond-false}
use Rattle.std.proofs.lemmas.List.{take_all}
use Rattle.pay_book.specs.declared.payment.Payment.{Payment}
use Rattle.pay_book.specs.Payment.{names_payee, payment_named, payments_named}

and_false : (b : Bool) → b && false ≡ false
and_false true = refl
and_false false = refl

one_fails : (pairs : List (ℕ × ℕ)) (i : ℕ) → i < length pairs → names_payee (get_or pairs i (0, 0)) ≡ false → list_all names_payee pairs ≡ false
one_fails [] i less fails = absurd (omega arith)
one_fails (p ∷ pairs) zero less fails = ap (λ b. b && list_all names_payee pairs) fails
one_fails (p ∷ pairs) (suc i) less fails =
    ap (λ b. names_payee p && b) (one_fails pairs i (omega arith) fails) ∙ and_false (names_payee p)

not_less : (x y : ℕ) → (x < y → ⊥) → ltb x y ≡ false
not_less x y no_less = let le : y ≤ x = omega (arith, no_less) in search (rules, tests)

pub one_is_beyond : (pairs : List (ℕ × ℕ)) (i : ℕ) → i < length pairs → ((get_or pairs i (0, 0)).0 < 2 ^ 16 → ⊥) → None ≡ payments_named pairs
unfolding payments_named
one_is_beyond pairs i less beyond =
    sym (cond-false (list_all names_payee pairs) _ _ (one_fails pairs i less (not_less (get_or pairs i (0, 0)).0 (2 ^ 16) beyond)))

pub all_are_named : (pairs : List (ℕ × ℕ)) (payments : List Payment) (i : ℕ) → length pairs ≤ i
    → payments ≡ map payment_named (take i pairs) → list_all names_payee (take i pairs) ≡ true → Some payments ≡ payments_named pairs
unfolding payments_named
all_are_named pairs payments i end same named =
    ap Some (same ∙ ap (map payment_named) (take_all i pairs end))
    ∙ sym (cond-true (list_all names_payee pairs) _ _ (sym (ap (list_all names_payee) (take_all i pairs end)) ∙ named))
