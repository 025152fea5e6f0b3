use Rattle.pay_laws.proofs.Restarting.{restarting}
use Rattle.pay_laws.proofs.laws.restart_is_no_lie.Goals as goal

pub returns : goal.returns
returns c =
    let by = c.histories_by_actions.ensures in
    let genuine = c.genuine_actions.ensures in
    restarting by.first by.one_more by.grow genuine.first genuine.one_more c.forgetting_is_no_lie.ensures
