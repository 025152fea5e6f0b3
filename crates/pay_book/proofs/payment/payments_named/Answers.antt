use Rattle.std.proofs.Common.{arith}
use Rattle.std.proofs.lemmas.Grind.{common_steps}
use Rattle.pay_book.proofs.Numbers.{one_is_beyond, all_are_named}
use Rattle.pay_book.proofs.payment.payments_named.Goals as goal

pub returns-in_default : goal.returns-in_default
returns-in_default c =
    one_is_beyond c.args.pairs.now c.loop-number.number-index c.loop-number-test.true c.in_default.ensures

pub returns : goal.returns
returns c =
    all_are_named c.args.pairs.now c.loop-number.payments.items c.loop-number.number-index c.loop-number-test.false
    c.loop-number.invariant.same c.loop-number.invariant.named

pub loop-number-preserved : goal.loop-number-preserved
loop-number-preserved c = grind (arith, common_steps)
