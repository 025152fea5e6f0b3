use Rattle.std.proofs.Common.{◌≡◌, ℕ, ◌<◌, arith, drop, ap, ◌∙◌}
use Rattle.pay_node.specs.Closing.{IsCounted}
use Rattle.pay_node.proofs.Verdicts.{verdict}
use Rattle.pay_node.proofs.closing.least_uncounted.Goals as goal

pub returns : goal.returns
returns c =
    let stop = c.loop-stamp-test.false in
    let at : c.entries_since-since.result.now ≡ drop c.args.base c.args.member.now.history = c.entries_since-since.ensures ∙ ap (drop c.args.base) c.history.ensures.value in
    let counted : (lower : ℕ) → lower < c.args.count → IsCounted c.args.member.now c.args.base lower c.args.seats.now = λ lower below. c.loop-stamp.invariant lower (omega arith) in
    verdict (λ s. IsCounted c.args.member.now c.args.base s c.args.seats.now) c.args.member.now c.args.base c.args.count c.args.seats.now c.entries_since-since.result.now c.least_of_seats-of_seats.result c.least_of_entries.result counted c.least_of_seats-of_seats.ensures at c.least_of_entries.ensures
