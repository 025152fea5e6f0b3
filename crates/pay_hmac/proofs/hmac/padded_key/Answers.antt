use Rattle.std.proofs.Common.{arith}
use Rattle.pay_hmac.proofs.Pads.{filled_blocks}
use Rattle.pay_hmac.proofs.hmac.padded_key.Goals as goal

pub returns-then-key-gt-BLOCK : goal.returns-then-key-gt-BLOCK
returns-then-key-gt-BLOCK c = grind (arith, filled_blocks)
