use Rattle.std.proofs.Common.{◌≡◌, ◌++◌}
use Rattle.std.specs.List.{flat_map, range_with_len}
use Rattle.pay_audit.specs.Findings.{fork_words}
use Rattle.pay_audit.proofs.forks.push_owner.Given as goal

-- the lines of the numbers so far
abbrev pub invariant-loop-seq : goal.invariant-loop-seq
invariant-loop-seq l = (l.out.items ≡ l.fn.out.items ++ flat_map (fork_words l.members l.group l.owner) (range_with_len 0 l.seq))
