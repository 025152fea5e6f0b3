use Rattle.std.proofs.Common.{◌≡◌, ◌∷◌, length, take}
use Rattle.std.specs.List.{flat_map}
use Rattle.pay_book.specs.declared.payment.TheConstants.{SEVERAL_VERSION}
use Rattle.pay_book.specs.Payment.{pair_bytes}
use Rattle.pay_book.proofs.payment.payments_value.Given as goal

-- the head, and the pairs of the payments so far
abbrev pub invariant-loop-payment : goal.invariant-loop-payment
invariant-loop-payment l =
    l.value.items ≡ SEVERAL_VERSION ∷ length l.payments ∷ flat_map pair_bytes (take l.payment-index l.payments)
