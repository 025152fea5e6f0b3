use Rattle.pay_laws.proofs.Restarting.{of_restarts}
use Rattle.pay_laws.proofs.laws.headline_of_restarts.Goals as goal

pub returns : goal.returns
returns c =
    let by = c.histories_by_actions.ensures in
    of_restarts by.first by.one_more by.grow c.restart_is_no_lie.ensures c.headline.ensures
