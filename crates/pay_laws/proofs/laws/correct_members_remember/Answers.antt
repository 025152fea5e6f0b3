use Rattle.pay_laws.proofs.Restarting.{remembering}
use Rattle.pay_laws.proofs.laws.correct_members_remember.Goals as goal

pub returns : goal.returns
returns c =
    remembering c.histories_by_actions.ensures.first c.histories_by_actions.ensures.one_more c.histories_by_actions.ensures.grow c.genuine_actions.ensures.prefix
    c.restart_is_no_lie.ensures c.correct_members_stand.ensures.genuine c.nothing_is_invented.ensures.list
