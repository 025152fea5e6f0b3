use Rattle.std.proofs.Common.{ℕ, ◌<◌}
use Rattle.pay_log.specs.Damage.{IsChunkAt}
use Rattle.pay_log.proofs.chunk.has_chunk_in.Given as goal

-- none stands so far
abbrev pub invariant-loop-at : goal.invariant-loop-at
invariant-loop-at l = (k : ℕ) → k < l.at → IsChunkAt l.key l.bytes k → ⊥
