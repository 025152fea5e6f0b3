use Rattle.pay_audit.proofs.Backward.{reads_back}
use Rattle.pay_audit.proofs.laws.export_reads_back.Goals as goal

pub returns : goal.returns
returns c = reads_back c.genesis_limits.ensures
