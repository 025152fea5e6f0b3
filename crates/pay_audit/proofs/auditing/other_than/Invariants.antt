use Rattle.std.proofs.Common.{◌≡◌, drop}
use Rattle.pay_audit.specs.Verdict.{first_from, other_genesis_at}
use Rattle.pay_audit.proofs.auditing.other_than.Given as goal

-- none so far
abbrev pub invariant-loop-place : goal.invariant-loop-place
invariant-loop-place l =
    first_from (other_genesis_at l.genesis) 0 l.exports
    ≡ first_from (other_genesis_at l.genesis) l.place (drop l.place l.exports)
