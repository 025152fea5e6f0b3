use Rattle.pay_world.proofs.Happening.{no_history_at_first, history_by_one_more, histories_grow}
use Rattle.pay_world.proofs.laws.histories_by_actions.Goals as goal

pub returns : goal.returns
returns c = record { first = no_history_at_first; one_more = history_by_one_more; grow = histories_grow }
