use Rattle.std.proofs.Common.{ℕ, ◌<◌, ◌≤◌, take, get_or}
use Rattle.std.specs.List.{AllPairs}
use Rattle.pay_node.specs.Receipts.{ReceiptFields}
use Rattle.pay_node.specs.Receipts.{entries_after}
use Rattle.pay_node.proofs.judging.are_in_order.Given as goal

abbrev pub invariant-loop-receipt : goal.invariant-loop-receipt
invariant-loop-receipt l =
    AllPairs (λ (r later : ReceiptFields). entries_after r ≤ later.seen) (take l.receipt-index l.receipts)
    × ((k : ℕ) (d : ReceiptFields) → k < l.receipt-index → entries_after (get_or l.receipts k d) ≤ l.least)
    × (l.base ≤ l.least) × ((k : ℕ) (d : ReceiptFields) → k < l.receipt-index → l.base ≤ (get_or l.receipts k d).seen)
