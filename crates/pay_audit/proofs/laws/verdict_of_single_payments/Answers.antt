use Rattle.pay_audit.proofs.Former.{verdict_same}
use Rattle.pay_audit.proofs.laws.verdict_of_single_payments.Goals as goal

pub returns : goal.returns
returns c = verdict_same c.single_entries.ensures
