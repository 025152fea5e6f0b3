use Rattle.pay_channel.proofs.Asks.{asks_are_counted, sends_are_asks, send_in_out, sent_is_asked, own_echo_is_ask}
use Rattle.pay_channel.proofs.laws.sends_are_asks.Goals as goal

pub returns : goal.returns
returns c =
    record {
      counted = asks_are_counted;
      sends = sends_are_asks;
      one = send_in_out;
      sent = sent_is_asked;
      echo = own_echo_is_ask c.one_vote_more.ensures.echoed;
    }
