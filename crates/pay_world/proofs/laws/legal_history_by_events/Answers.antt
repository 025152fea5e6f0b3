use Rattle.pay_world.proofs.Recorded.{by_events, legal_by_events}
use Rattle.pay_world.proofs.laws.legal_history_by_events.Goals as goal

pub returns-clause-legal : goal.returns-clause-legal
returns-clause-legal c = λ g keys l es i k mine all.
    legal_by_events g keys l i k mine c.legal_histories.ensures.none c.legal_histories.ensures.more c.events_in_order.ensures.first c.events_in_order.ensures.one_more
    c.what_opens.ensures es all

pub returns-clause-own : goal.returns-clause-own
returns-clause-own c = λ g keys l k history of members mine legal.
    by_events g keys l k of mine c.what_is_brought.ensures.opened c.legal_histories.ensures.shorter c.legal_history_by_actions.ensures members history legal
