use Rattle.std.proofs.Common.{◌≡◌, take}
use Rattle.std.specs.List.{filter}
use Rattle.pay_group.specs.Backing.{has_at}
use Rattle.pay_group.proofs.listing.that_have.Given as goal

abbrev pub invariant-loop-source : goal.invariant-loop-source
invariant-loop-source g l = l.some.items ≡ filter (λ s. has_at l.place l.value (g.S.Source.lists s.now l.owner)) (take l.source-index l.sources)
