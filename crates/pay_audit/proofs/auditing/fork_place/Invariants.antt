use Rattle.std.proofs.Common.{◌≡◌, drop}
use Rattle.std.specs.List.{zip}
use Rattle.pay_audit.specs.Verdict.{first_from, if_differ}
use Rattle.pay_audit.proofs.auditing.fork_place.Given as goal

-- none so far
abbrev pub invariant-loop-place : goal.invariant-loop-place
invariant-loop-place l =
    first_from if_differ 0 (zip l.one l.other)
    ≡ first_from if_differ l.place (zip (drop l.place l.one) (drop l.place l.other))
