use Rattle.std.proofs.Common.{◌≡◌, ◌++◌, drop}
use Rattle.std.specs.List.{enumerate_from, flat_map}
use Rattle.pay_audit.specs.Findings.{if_first}
use Rattle.pay_audit.proofs.forks.push_values.Given as goal

-- with the words of the exports to come it is the whole text
abbrev pub invariant-loop-place : goal.invariant-loop-place
invariant-loop-place l =
    l.out.items ++ flat_map (if_first l.members l.group l.owner l.seq) (enumerate_from l.place (drop l.place l.group))
    ≡ l.fn.out.items ++ flat_map (if_first l.members l.group l.owner l.seq) (enumerate_from 0 l.group)
