-- The payments of lines, and the values that pay them.
use Rattle.std.specs.Prelude.{ℕ, ◌≤◌, List, [], ◌∷◌, length, if◌then◌else◌, map, Option, Some, None}
use Rattle.std.specs.List.{list_all}
use Rattle.pay_book.specs.declared.payment.TheConstants.{MOST_PAYMENTS}
use Rattle.pay_book.specs.Payment.{names_payee, payment_named, payment_value, payments_value}
use Rattle.pay_desk.specs.declared.command.Payments.{Payments}
use Rattle.pay_desk.specs.declared.command.Payments.TheVariants.{One, Several}

-- the payees and the amounts of payments, in order
abbrev pub pairs_of : Payments → List (ℕ × ℕ)
pairs_of (One to amount) = (to, amount) ∷ []
pairs_of (Several pairs) = pairs

-- no more payments than a value holds
abbrev pub HasFew : Payments → Type 0
HasFew payments = length (pairs_of payments) ≤ MOST_PAYMENTS

-- The value of these payments.
abbrev pub value_of_payments : Payments → List ℕ
value_of_payments (One to amount) = payment_value to amount
value_of_payments (Several pairs) = payments_value (map payment_named pairs)

-- this value, if the payments have only payees that a value can name
abbrev pub if_named : Payments → List ℕ → Option (List ℕ)
if_named payments value = if list_all names_payee (pairs_of payments) then Some value else None
