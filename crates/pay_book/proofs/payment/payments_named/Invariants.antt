use Rattle.std.proofs.Common.{◌≡◌, map, take, true}
use Rattle.std.specs.List.{list_all}
use Rattle.pay_book.specs.Payment.{names_payee, payment_named}
use Rattle.pay_book.proofs.payment.payments_named.Given as goal

-- the payments so far, each to a payee that a value can name
abbrev pub invariant-loop-number : goal.invariant-loop-number
invariant-loop-number l = record {
  same : l.payments.items ≡ map payment_named (take l.number-index l.pairs);
  named : list_all names_payee (take l.number-index l.pairs) ≡ true;
}
