use Rattle.pay_channel.proofs.HistoryLaws.{votes_by_one_more, asks_by_one_more, out_by_one_more, others_untouched}
use Rattle.pay_channel.proofs.Asks.{asked_by_one_more}
use Rattle.pay_channel.proofs.laws.one_event_more.Goals as goal

pub returns : goal.returns
returns c =
    record {
      votes = votes_by_one_more;
      asks = asks_by_one_more;
      asked = asked_by_one_more;
      out = out_by_one_more;
      others = others_untouched;
    }
