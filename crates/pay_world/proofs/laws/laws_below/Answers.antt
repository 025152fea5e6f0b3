use Rattle.pay_world.proofs.laws.laws_below.Goals as goal

pub returns : goal.returns
returns c =
    record {
      one = record {
        not_ready_at_first = c.nothing_known_at_first.ensures.readied;
        echo_set_grows = c.nobody_leaves.ensures.echo_set;
        in_echo_set = c.members_of_sets.ensures.echo_set;
        in_ready_set = c.members_of_sets.ensures.ready_set;
        in_other_ready_set = c.members_of_sets.ensures.other_ready_set;
        own_echo = c.members_of_sets.ensures.own_echo;
        own_ready = c.members_of_sets.ensures.own_ready;
        send_came = c.votes_came.ensures.send;
        echo_came = c.votes_came.ensures.echo;
        ready_came = c.votes_came.ensures.ready;
        send_is_echoed = c.votes_came.ensures.echoed;
        echo_counts = c.votes_came.ensures.echo_counts;
        ready_counts = c.votes_came.ensures.ready_counts;
        why_ready = c.why_known.ensures.ready;
        why_delivered = c.why_known.ensures.delivered;
        quorum_makes_ready = c.why_known.ensures.quorum;
        amplification_makes_ready = c.why_known.ensures.amplification;
        readys_deliver = c.why_known.ensures.readys;
      };
      sets = record {
        size_of_others = c.sizes_of_sets.ensures.others;
        part_is_smaller = c.sizes_of_sets.ensures.part;
        quorums_share = c.quorums_share.ensures.share;
        larger_has_another = c.quorums_share.ensures.another;
        rest_is_quorum = c.quorums_can_form.ensures.rest;
        quorum_is_more = c.quorums_can_form.ensures.more;
        more_remain = c.quorums_can_form.ensures.remain;
      };
      channel = record {
        no_votes_at_first = c.nothing_at_first.ensures.votes;
        votes_grow = c.grow_at_the_end.ensures.votes;
        echo_is_taken = c.votes_are_taken.ensures.echo;
        ready_is_taken = c.votes_are_taken.ensures.ready;
        send_is_taken = c.votes_are_taken.ensures.send;
        nothing_taken_at_first = c.nothing_at_first.ensures.taken;
        taken_by_one_more = c.taken_in_order.ensures.more;
        taken_is_from = c.taken_in_order.ensures.is_from;
        out_grows = c.grow_at_the_end.ensures.out;
        echo_is_said = c.what_is_sent.ensures.echo_is_said;
        ready_is_said = c.what_is_sent.ensures.ready_is_said;
        sent_is_asked = c.sends_are_asks.ensures.sent;
        own_echo_is_ask = c.sends_are_asks.ensures.echo;
        no_asks_at_first = c.nothing_at_first.ensures.asks;
        asks_by_one_more = c.one_event_more.ensures.asks;
        asks_are_counted = c.sends_are_asks.ensures.counted;
        delivered_is = c.delivered_for_good.ensures.is;
        delivery_stays = c.delivered_for_good.ensures.stays;
        list_is_values = c.lists_compared.ensures.values;
        list_begins_values = c.lists_compared.ensures.begins;
        lists_alike = c.lists_compared.ensures.alike;
        lists_compare = c.lists_compared.ensures.compare;
        lists_grow = c.lists_grow.ensures.many;
      };
    }
