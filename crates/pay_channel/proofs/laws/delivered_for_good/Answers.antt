use Rattle.pay_channel.proofs.Came.{delivered_came}
use Rattle.pay_channel.proofs.Longer.{delivered_is, delivery_stays}
use Rattle.pay_channel.proofs.laws.delivered_for_good.Goals as goal

pub returns : goal.returns
returns c =
    record {
      is = delivered_is;
      stays = delivery_stays c.known_stays.ensures.delivered;
      came = delivered_came c.one_vote_more.ensures.delivered c.nothing_known_at_first.ensures.delivered;
    }
