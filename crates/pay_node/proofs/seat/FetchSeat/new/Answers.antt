use Rattle.pay_node.proofs.Kept.{none_fetched}
use Rattle.pay_node.proofs.seat.FetchSeat.new.Goals as goal

pub invariant_of-result : goal.invariant_of-result
invariant_of-result c = none_fetched c.args.seat c.requires
