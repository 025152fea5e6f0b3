use Rattle.std.proofs.Common.{◌≡◌, ◌++◌, drop}
use Rattle.payd.specs.Metrics.{fronts_from}
use Rattle.payd.proofs.metrics.samples_of_fronts.Given as goal

-- with the accounts that are to come the values are those of all
abbrev pub invariant-loop-account : goal.invariant-loop-account
invariant-loop-account l =
    l.samples.items ++ fronts_from l.account (drop l.account l.fronts) ≡ fronts_from 0 l.fronts
