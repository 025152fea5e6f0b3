use Rattle.std.proofs.Common.{◌≤◌, ℕ, subst}
use Rattle.pay_node.proofs.Judged.{ordered_on, since_on}
use Rattle.pay_node.proofs.judging.are_in_order.Goals as goal

pub loop-receipt-preserved : goal.loop-receipt-preserved
loop-receipt-preserved c =
    let far : c.loop-receipt.least ≤ c.receipt-item.result.seen = subst (λ (n : ℕ). c.loop-receipt.least ≤ n) c.history_len.ensures c.if-history_len-least.false in
    let ordered = ordered_on c.args.receipts.now c.loop-receipt.receipt-index c.loop-receipt.least c.in-Some.after c.receipt-item.result
    c.loop-receipt.invariant.0 c.loop-receipt.invariant.1 c.loop-receipt-test.true c.receipt-item.is c.in-Some.ensures far in
    let since = since_on c.args.receipts.now c.loop-receipt.receipt-index c.args.base c.loop-receipt.least c.in-Some.after c.receipt-item.result
    c.loop-receipt.invariant.2 c.loop-receipt.invariant.3 c.loop-receipt-test.true c.receipt-item.is c.in-Some.ensures far in
    (ordered.0, ordered.1, since.0, since.1)
