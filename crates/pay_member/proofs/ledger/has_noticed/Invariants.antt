use Rattle.std.proofs.Common.{ℕ, ◌<◌, ◌≤◌}
use Rattle.pay_member.specs.Ledger.{IsListedAsEchoed}
use Rattle.pay_member.proofs.ledger.has_noticed.Given as goal

abbrev pub invariant-loop-seq : goal.invariant-loop-seq
invariant-loop-seq g l = (k : ℕ) → l.from ≤ k → k < l.seq → IsListedAsEchoed l.channel l.account k
