use Rattle.pay_channel.proofs.Asks.{asked_grows}
use Rattle.pay_channel.proofs.Longer.{lists_grow, one_list_grows}
use Rattle.pay_channel.proofs.laws.lists_grow.Goals as goal

pub returns : goal.returns
returns c =
    let stays = c.known_stays.ensures.delivered in
    record { asked = asked_grows; many = lists_grow stays; one = one_list_grows stays }
