use Rattle.std.proofs.Common.{◌≡◌, drop}
use Rattle.std.specs.List.{zip}
use Rattle.pay_audit.specs.Compared.{fork_if}
use Rattle.pay_audit.specs.Verdict.{first_from}
use Rattle.pay_audit.proofs.comparison.fork_by.Given as goal

-- none so far
abbrev pub invariant-loop-owner : goal.invariant-loop-owner
invariant-loop-owner l =
    first_from (fork_if l.one l.other) 0 (zip l.lengths l.differences)
    ≡ first_from (fork_if l.one l.other) l.owner (zip (drop l.owner l.lengths) (drop l.owner l.differences))
