use Rattle.pay_laws.proofs.Holding.{compares_at_first, compares_one_more, noted_is_held}
use Rattle.pay_laws.proofs.laws.noted_claims_are_compared.Goals as goal

pub returns : goal.returns
returns c = record { first = compares_at_first; more = compares_one_more; held = noted_is_held }
