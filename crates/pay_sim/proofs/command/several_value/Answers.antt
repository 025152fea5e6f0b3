use Rattle.std.proofs.Common.{◌≤◌, ◌∙◌, List, ap, length, subst, sym, arith}
use Rattle.std.specs.Option.{option_map}
use Rattle.pay_book.specs.declared.payment.Payment.{Payment}
use Rattle.pay_book.specs.declared.payment.TheConstants.{MOST_PAYMENTS}
use Rattle.pay_sim.proofs.Several.{few_named}
use Rattle.pay_sim.proofs.command.several_value.Goals as goal

pub payments_value-requires : goal.payments_value-requires
payments_value-requires c =
    let few = rw c.in-Some.is at c.in_ok-pairs.ensures.few in
    let same = ap length c.as_slice.ensures in
    let most = c.from.ensures in
    subst (λ (ps : List Payment). length ps ≤ MOST_PAYMENTS) (sym c.as_slice-2.ensures.value)
    (few_named c.as_slice.result.now c.in-Some-2.payments.items MOST_PAYMENTS (omega arith)
    (ap (option_map (λ p. p.items)) (sym c.in-Some-2.is) ∙ c.in_ok-payments.ensures))
