use Rattle.pay_member.proofs.Members.{no_events, events-more}
use Rattle.pay_member.proofs.laws.events_in_order.Goals as goal

pub returns : goal.returns
returns c = record { first = no_events; one_more = events-more }
