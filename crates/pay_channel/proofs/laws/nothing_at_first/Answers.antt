use Rattle.pay_channel.proofs.HistoryLaws.{no_asks_at_first, nothing_sent_at_first}
use Rattle.pay_channel.proofs.Asks.{nothing_asked_at_first}
use Rattle.pay_channel.proofs.Taking.{nothing_taken_at_first}
use Rattle.pay_channel.proofs.VotesTaken.{no_votes_at_first}
use Rattle.pay_channel.proofs.Longer.{nothing_delivered_at_first, empty_at_first}
use Rattle.pay_channel.proofs.laws.nothing_at_first.Goals as goal

pub returns : goal.returns
returns c =
    let none = c.nothing_known_at_first.ensures.delivered in
    record {
      votes = no_votes_at_first;
      asks = no_asks_at_first;
      asked = nothing_asked_at_first;
      out = nothing_sent_at_first;
      taken = nothing_taken_at_first;
      delivered = nothing_delivered_at_first none;
      lists = empty_at_first none;
    }
