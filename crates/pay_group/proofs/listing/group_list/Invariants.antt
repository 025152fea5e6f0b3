use Rattle.pay_group.proofs.Agreed.{Agree}
use Rattle.pay_group.proofs.listing.group_list.Given as goal

abbrev pub invariant-loop-place : goal.invariant-loop-place
invariant-loop-place g l = Agree (λ s. g.S.Source.lists s.now l.owner) l.sources l.faults l.place l.agreeing.items
