use Rattle.pay_member.proofs.Members.{legal_none, legal_more}
use Rattle.pay_member.proofs.Histories.{prefix_is_legal, events_may_come, delivered_are_values}
use Rattle.pay_member.proofs.laws.legal_histories.Goals as goal

pub returns : goal.returns
returns c =
    record {
      none = legal_none;
      more = legal_more;
      shorter = prefix_is_legal;
      may_come = events_may_come;
      values = delivered_are_values c.delivered_for_good.ensures.came;
    }
