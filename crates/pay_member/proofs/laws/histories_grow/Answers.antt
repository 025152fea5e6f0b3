use Rattle.pay_member.proofs.Histories.{events_grow, sent_grows, lists_of_history_grow, settled_stays, fronts_grow}
use Rattle.pay_member.proofs.laws.histories_grow.Goals as goal

pub returns : goal.returns
returns c =
    let lists = c.lists_grow.ensures.many in
    record {
      events = events_grow;
      sent = sent_grows c.grow_at_the_end.ensures.out;
      lists = lists_of_history_grow lists;
      settled = settled_stays lists c.settled_entries_grow.ensures;
      fronts = fronts_grow lists c.largest_grows.ensures;
    }
