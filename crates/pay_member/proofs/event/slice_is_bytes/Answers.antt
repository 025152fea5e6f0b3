use Rattle.std.proofs.Common.{arith}
use Rattle.pay_member.proofs.event.slice_is_bytes.Goals as goal

pub returns : goal.returns
returns c = record { fits = λ i. omega (arith, c.type_inv.slice i) }
