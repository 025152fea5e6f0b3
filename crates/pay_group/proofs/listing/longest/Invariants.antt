use Rattle.std.proofs.Common.{◌≤◌, length, take}
use Rattle.std.specs.List.{All}
use Rattle.pay_group.proofs.listing.longest.Given as goal

abbrev pub invariant-loop-source : goal.invariant-loop-source
invariant-loop-source g l = All (λ s. length (g.S.Source.lists s.now l.owner) ≤ l.longest) (take l.source-index l.sources)
