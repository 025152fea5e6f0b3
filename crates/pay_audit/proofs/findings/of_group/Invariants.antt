use Rattle.std.proofs.Common.{◌≡◌, ◌++◌, drop}
use Rattle.std.specs.List.{filter}
use Rattle.pay_audit.specs.Findings.{has_genesis}
use Rattle.pay_audit.proofs.findings.of_group.Given as goal

-- with those of the exports to come it is all
abbrev pub invariant-loop-named : goal.invariant-loop-named
invariant-loop-named l = l.group.items ++ filter (has_genesis l.genesis) (drop l.named-index l.exports) ≡ filter (has_genesis l.genesis) l.exports
