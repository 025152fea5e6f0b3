use Rattle.std.proofs.Common.{◌≡◌, drop}
use Rattle.std.specs.Prelude.{max}
use Rattle.pay_audit.specs.Findings.{longest}
use Rattle.pay_audit.proofs.forks.longest.Given as goal

-- the longest so far, or one to come
abbrev pub invariant-loop-named : goal.invariant-loop-named
invariant-loop-named l = max l.most (longest l.owner (drop l.named-index l.group)) ≡ longest l.owner l.group
