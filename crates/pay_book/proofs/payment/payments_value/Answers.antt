use Rattle.std.proofs.Common.{◌∷◌, ◌∙◌, ap, length, arith}
use Rattle.std.proofs.lemmas.Grind.{common_steps}
use Rattle.std.specs.List.{flat_map}
use Rattle.std.proofs.lemmas.List.{take_all}
use Rattle.std.proofs.lemmas.Result.{IfOk-weaker}
use Rattle.pay_book.specs.declared.payment.TheConstants.{SEVERAL_VERSION}
use Rattle.pay_book.specs.Payment.{pair_bytes, payments_value}
use Rattle.pay_book.proofs.Encoding.{length-payments_value}
use Rattle.pay_book.proofs.payment.payments_value.Goals as goal

pub returns-clause-length : goal.returns-clause-length
unfolding payments_value
returns-clause-length c =
    let payments = c.args.payments.now in
    let size = ap length c.loop-payment.invariant
    ∙ ap (λ ps. length (SEVERAL_VERSION ∷ length payments ∷ flat_map pair_bytes ps))
    (take_all c.loop-payment.payment-index payments c.loop-payment-test.false)
    ∙ length-payments_value payments in
    IfOk-weaker c.new.result _ _ (λ made is. ap length is ∙ size) c.new.ensures.value

pub loop-payment-init : goal.loop-payment-init
loop-payment-init c = grind (arith, common_steps)

pub loop-payment-preserved : goal.loop-payment-preserved
loop-payment-preserved c = grind (arith, common_steps)
