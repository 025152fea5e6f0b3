use Rattle.std.proofs.Common.{arith}
use Rattle.std.proofs.lemmas.Option.{slice_get_within}
use Rattle.pay_group.proofs.Counting.{few}
use Rattle.pay_group.proofs.listing.is_disputed.Goals as goal

pub returns-clause-no : goal.returns-clause-no
returns-clause-no g c answer v differs = few (λ s. g.S.Source.lists s.now c.args.owner) c.args.sources.now c.args.place c.args.faults v
    (λ i s at had. c.loop-source.invariant i s v (omega (arith, slice_get_within c.args.sources.now i s at, c.loop-source-test.false)) at differs had)
