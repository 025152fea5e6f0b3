use Rattle.pay_laws.proofs.Releasing.{delivered_was_asked, first_taken_is_first_sent, released_has_delivered}
use Rattle.pay_laws.proofs.laws.released_has_delivered.Goals as goal

pub returns-clause-lost : goal.returns-clause-lost
returns-clause-lost c = released_has_delivered (record {
  in_echo_set = c.members_of_sets.ensures.echo_set;
  in_ready_set = c.members_of_sets.ensures.ready_set;
  own_echo = c.members_of_sets.ensures.own_echo;
  send_came = c.votes_came.ensures.send;
  echo_came = c.votes_came.ensures.echo;
  ready_came = c.votes_came.ensures.ready;
  why_delivered = c.why_known.ensures.delivered;
  part = c.sizes_of_sets.ensures.part;
  share = c.quorums_share.ensures.share;
  another = c.quorums_share.ensures.another;
  nothing_taken = c.nothing_at_first.ensures.taken;
  taken_grows = c.taken_in_order.ensures.grows;
  taken_is_from = c.taken_in_order.ensures.is_from;
  one_more = c.taken_in_order.ensures.next;
  out_grows = c.grow_at_the_end.ensures.out;
  echo_is_said = c.what_is_sent.ensures.echo_is_said;
  ready_is_said = c.what_is_sent.ensures.ready_is_said;
  echo_is_taken = c.votes_are_taken.ensures.echo;
  ready_is_taken = c.votes_are_taken.ensures.ready;
  send_is_taken = c.votes_are_taken.ensures.send;
  delivered_is = c.delivered_for_good.ensures.is;
  genuine_stands = c.correct_members_stand.ensures.genuine;
  no_lie = c.restart_is_no_lie.ensures;
})

pub returns-clause-correct : goal.returns-clause-correct
returns-clause-correct c =
    delivered_was_asked c.restart_is_no_lie.ensures c.correct_members_stand.ensures.genuine c.nothing_is_invented.ensures.value

pub returns-clause-copy : goal.returns-clause-copy
returns-clause-copy c = first_taken_is_first_sent
