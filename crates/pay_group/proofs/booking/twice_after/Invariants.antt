use Rattle.std.proofs.Common.{◌≡◌, ◌+◌, drop}
use Rattle.pay_audit.specs.Verdict.{first_from}
use Rattle.pay_group.specs.Book.{twice_at}
use Rattle.pay_group.proofs.booking.twice_after.Given as goal

-- none so far
abbrev pub invariant-loop-k : goal.invariant-loop-k
invariant-loop-k l =
    first_from (twice_at l.one l.export.member) l.next l.following
    ≡ first_from (twice_at l.one l.export.member) (l.next + l.k) (drop l.k l.following)
