use Rattle.pay_book.proofs.Encoding.{entries_in-one, entries_in-encoded, payment_value-same, payments_value-same, values-apart}
use Rattle.pay_book.proofs.payment.what_was_encoded.Goals as goal

pub returns-clause-one : goal.returns-clause-one
returns-clause-one c = entries_in-one

pub returns-clause-several : goal.returns-clause-several
returns-clause-several c = entries_in-encoded

pub returns-clause-apart : goal.returns-clause-apart
returns-clause-apart c = record { one = payment_value-same; several = payments_value-same; versions = values-apart }
