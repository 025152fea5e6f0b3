use Rattle.std.proofs.Common.{arith}
use Rattle.std.proofs.lemmas.Bool.{false≢true}
use Rattle.pay_log.proofs.Behind.{inside}
use Rattle.pay_log.proofs.chunk.has_chunk_in.Goals as goal

pub returns : goal.returns
returns c = (
  λ yes'. absurd (false≢true yes'),
  λ has. absurd (c.loop-at.invariant has.at (omega (arith, inside c.args.key.now c.args.bytes.now has.at has.chunk)) has.chunk),
)
