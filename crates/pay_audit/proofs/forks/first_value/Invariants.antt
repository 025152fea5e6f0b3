use Rattle.std.proofs.Common.{◌≡◌, drop}
use Rattle.pay_audit.specs.Findings.{first_value}
use Rattle.pay_audit.proofs.forks.first_value.Given as goal

-- none lists a value so far
abbrev pub invariant-loop-named : goal.invariant-loop-named
invariant-loop-named l = first_value l.owner l.seq (drop l.named-index l.group) ≡ first_value l.owner l.seq l.group
