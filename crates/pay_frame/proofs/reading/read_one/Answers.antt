use Rattle.std.proofs.Common.{arith}
use Rattle.std.proofs.lemmas.Grind.{common_steps}
use Rattle.std.proofs.lemmas.Result.{err_from_is_err_and}
use Rattle.pay_frame.specs.Lent.{fields_of}
use Rattle.pay_frame.proofs.WholeFrame.{one_failed, more_than_it}
use Rattle.pay_frame.proofs.reading.read_one.Goals as goal

pub returns-in_err-size : goal.returns-in_err-size
returns-in_err-size c =
    let p = err_from_is_err_and c.from_residual.result c.from_residual.ensures.1 in
    record { one = one_failed c.args.bytes.now p.0 c.from_residual.result p.1 (rw p.2 c.in_err-size.ensures.reading) }

pub returns-in-Some-2 : goal.returns-in-Some-2
returns-in-Some-2 c =
    let reading = rw c.in-Some.is at c.in_ok-size.ensures.reading in
    let size = reading.1 in
    record { one = more_than_it c.args.bytes.now (fields_of c.in-Some.frame) reading.0 (λ e. omega arith) }

pub returns-in-None : goal.returns-in-None
returns-in-None c = grind (arith, common_steps)

pub returns-in-Some : goal.returns-in-Some
returns-in-Some c = grind (arith, common_steps)
