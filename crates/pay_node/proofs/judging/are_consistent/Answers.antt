use Rattle.std.proofs.Common.{rules}
use Rattle.pay_node.proofs.Judged.{judged_on}
use Rattle.pay_node.proofs.judging.are_consistent.Goals as goal

pub loop-receipt-preserved : goal.loop-receipt-preserved
loop-receipt-preserved c =
    judged_on c.args.replay.now c.loop-receipt.replay c.is_next_consistent.new.replay c.args.stamp c.args.receipts.now c.loop-receipt.receipt-index c.receipt-item.result
    c.loop-receipt.invariant.0 c.loop-receipt.invariant.1 c.loop-receipt-test.true c.receipt-item.is
    (c.in_ok-is_next_consistent.ensures.says.0 (search rules)) (c.in_ok-is_next_consistent.ensures.taken (search rules))
