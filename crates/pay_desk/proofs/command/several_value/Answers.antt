use Rattle.std.proofs.Common.{◌≡◌, ◌∙◌, ◌≤◌, ap, sym, subst, length, map, List, arith}
use Rattle.std.specs.Option.{option_map}
use Rattle.pay_book.specs.declared.payment.Payment.{Payment}
use Rattle.pay_book.specs.Payment.{payments_value}
use Rattle.pay_book.specs.declared.payment.TheConstants.{MOST_PAYMENTS}
use Rattle.pay_desk.proofs.Naming.{named_value, named_few, not_named}
use Rattle.pay_desk.proofs.command.several_value.Goals as goal

pub returns-in_default-clause-value : goal.returns-in_default-clause-value
returns-in_default-clause-value c =
    not_named c.args.pairs.now (ap (option_map (λ p. p.items)) (sym c.in_default.is) ∙ c.in_ok-payments.ensures)

pub payments_value-requires : goal.payments_value-requires
payments_value-requires c =
    subst (λ (ps : List Payment). length ps ≤ MOST_PAYMENTS) (sym c.as_slice.ensures.value)
    (named_few c.args.pairs.now c.in-Some.payments.items c.requires
    (ap (option_map (λ p. p.items)) (sym c.in-Some.is) ∙ c.in_ok-payments.ensures))

pub returns-clause-value : goal.returns-clause-value
returns-clause-value c =
    named_value c.args.pairs.now c.in-Some.payments.items c.in_ok-value.value
    (ap (option_map (λ p. p.items)) (sym c.in-Some.is) ∙ c.in_ok-payments.ensures)
    (c.in_ok-value.ensures.value ∙ ap payments_value c.as_slice.ensures.value)

pub returns-clause-short : goal.returns-clause-short
returns-clause-short c =
    let few = named_few c.args.pairs.now c.in-Some.payments.items c.requires
    (ap (option_map (λ p. p.items)) (sym c.in-Some.is) ∙ c.in_ok-payments.ensures) in
    let same = ap length c.as_slice.ensures.value in
    let long = c.in_ok-value.ensures.length in
    omega arith
