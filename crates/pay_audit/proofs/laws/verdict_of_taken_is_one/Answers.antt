use Rattle.pay_audit.proofs.Taking.{verdict_of_taken_is_one}
use Rattle.pay_audit.proofs.laws.verdict_of_taken_is_one.Goals as goal

pub returns : goal.returns
returns c = verdict_of_taken_is_one
