use Rattle.pay_laws.proofs.Claims.{no_claim_is_beyond}
use Rattle.pay_laws.proofs.laws.no_claim_is_beyond.Goals as goal

pub returns : goal.returns
returns c =
    no_claim_is_beyond c.nothing_at_first.ensures.taken c.taken_in_order.ensures.grows c.taken_in_order.ensures.next
    c.grow_at_the_end.ensures.out c.restart_is_no_lie.ensures c.correct_members_stand.ensures.genuine
