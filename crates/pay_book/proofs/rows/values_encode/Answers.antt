use Rattle.std.proofs.Common.{refl}
use Rattle.pay_book.specs.Payment.{payment_value, payments_value}
use Rattle.pay_book.proofs.rows.values_encode.Goals as goal

pub returns-clause-one : goal.returns-clause-one
unfolding payment_value
returns-clause-one c = refl

pub returns-clause-several : goal.returns-clause-several
unfolding payments_value
returns-clause-several c = refl
