use Rattle.std.proofs.Common.{◌≡◌, drop, length}
use Rattle.pay_audit.specs.Compared.{fork_with}
use Rattle.pay_audit.specs.Verdict.{first_from}
use Rattle.pay_audit.proofs.comparison.fork_among.Given as goal

-- none so far
abbrev pub invariant-loop-one : goal.invariant-loop-one
invariant-loop-one l =
    first_from (fork_with (length l.lengths) l.differences) 0 l.lengths
    ≡ first_from (fork_with (length l.lengths) l.differences) l.one (drop l.one l.lengths)
