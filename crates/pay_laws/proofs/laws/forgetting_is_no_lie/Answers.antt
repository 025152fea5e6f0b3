use Rattle.pay_laws.proofs.Forgetting.{forgetting}
use Rattle.pay_laws.proofs.laws.forgetting_is_no_lie.Goals as goal

pub returns : goal.returns
returns c =
    let by = c.histories_by_actions.ensures in
    let genuine = c.genuine_actions.ensures in
    forgetting by.first by.one_more by.grow c.grow_at_the_end.ensures.out genuine.one_more genuine.prefix
