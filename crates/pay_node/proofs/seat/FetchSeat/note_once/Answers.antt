use Rattle.pay_node.proofs.Kept.{fetched_alone}
use Rattle.pay_node.proofs.seat.FetchSeat.note_once.Goals as goal

pub invariant_of-self : goal.invariant_of-self
invariant_of-self c = fetched_alone c.args.member.now _ _ _ _ c.note_once.ensures.noted c.note_once.ensures.err c.self.invariant
