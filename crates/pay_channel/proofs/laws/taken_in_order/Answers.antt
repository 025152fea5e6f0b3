use Rattle.pay_channel.proofs.Taking.{taken_by_one_more, taken_from_here, taken_from_elsewhere, taken_grows, taken_is_from, next_is_count, next_by_one_more}
use Rattle.pay_channel.proofs.laws.taken_in_order.Goals as goal

pub returns : goal.returns
returns c =
    record {
      more = taken_by_one_more;
      here = taken_from_here;
      elsewhere = taken_from_elsewhere;
      grows = taken_grows;
      is_from = taken_is_from;
      count = next_is_count;
      next = next_by_one_more;
    }
