use Rattle.std.proofs.Common.{◌≡◌, ◌+◌, drop}
use Rattle.pay_audit.specs.Compared.{fork_by}
use Rattle.pay_audit.specs.Verdict.{first_from}
use Rattle.pay_audit.proofs.comparison.fork_with.Given as goal

-- none so far
abbrev pub invariant-loop-k : goal.invariant-loop-k
invariant-loop-k l =
    first_from (fork_by l.one l.lengths) l.first l.differences
    ≡ first_from (fork_by l.one l.lengths) (l.first + l.k) (drop l.k l.differences)
