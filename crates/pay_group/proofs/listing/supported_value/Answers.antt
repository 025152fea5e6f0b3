use Rattle.std.proofs.Common.{arith}
use Rattle.std.proofs.lemmas.Option.{slice_get_within}
use Rattle.pay_group.proofs.Counting.{few}
use Rattle.pay_group.proofs.listing.supported_value.Goals as goal

pub returns-clause-none : goal.returns-clause-none
returns-clause-none g c v = few (λ s. g.S.Source.lists s.now c.args.owner) c.args.sources.now c.args.place c.args.faults v
    (λ i s at had. c.loop-source.invariant i s v (omega (arith, slice_get_within c.args.sources.now i s at, c.loop-source-test.false)) at had)
