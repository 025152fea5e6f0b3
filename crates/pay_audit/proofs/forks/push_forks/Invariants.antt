use Rattle.std.proofs.Common.{◌≡◌, ◌++◌}
use Rattle.std.specs.List.{flat_map, range_with_len}
use Rattle.pay_audit.specs.Findings.{owner_words}
use Rattle.pay_audit.proofs.forks.push_forks.Given as goal

-- the lines of the accounts so far
abbrev pub invariant-loop-owner : goal.invariant-loop-owner
invariant-loop-owner l = (l.out.items ≡ l.fn.out.items ++ flat_map (owner_words l.members l.group) (range_with_len 0 l.owner))
