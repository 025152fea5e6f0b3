use Rattle.pay_audit.proofs.Forking.{no_fork}
use Rattle.pay_audit.proofs.laws.fork_is_judged.Goals as goal

pub returns : goal.returns
returns c = no_fork
