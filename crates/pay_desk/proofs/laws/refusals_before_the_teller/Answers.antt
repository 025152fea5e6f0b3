use Rattle.pay_desk.proofs.Causes.{payee_cause, payment_cause}
use Rattle.pay_desk.proofs.laws.refusals_before_the_teller.Goals as goal

pub returns-clause-payee : goal.returns-clause-payee
returns-clause-payee c = payee_cause

pub returns-clause-payment : goal.returns-clause-payment
returns-clause-payment c = payment_cause
