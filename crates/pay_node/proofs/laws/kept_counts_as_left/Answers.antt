use Rattle.pay_node.proofs.Latest.{counts_as_left}
use Rattle.pay_node.proofs.laws.kept_counts_as_left.Goals as goal

pub returns : goal.returns
returns c = counts_as_left
