use Rattle.pay_channel.proofs.InOut.{echo_in_out, ready_in_out, echo_is_said, ready_is_said}
use Rattle.pay_channel.proofs.Sendable.{sent_may_come}
use Rattle.pay_channel.proofs.laws.what_is_sent.Goals as goal

pub returns : goal.returns
returns c =
    let none = c.nothing_known_at_first.ensures.readied in
    let stays = c.known_stays.ensures in
    record {
      echo = echo_in_out stays.echoed;
      ready = ready_in_out stays.readied none;
      echo_is_said = echo_is_said stays.echoed;
      ready_is_said = ready_is_said stays.readied none;
      may_come = sent_may_come;
    }
