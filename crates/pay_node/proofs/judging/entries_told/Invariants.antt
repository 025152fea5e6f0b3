use Rattle.std.proofs.Common.{◌≡◌, ◌≤◌, take}
use Rattle.std.specs.List.{count_by}
use Rattle.pay_node.specs.Receipts.{ReceiptFields}
use Rattle.pay_node.specs.Receipts.{has_entry}
use Rattle.pay_node.proofs.judging.entries_told.Given as goal

abbrev pub invariant-loop-receipt : goal.invariant-loop-receipt
invariant-loop-receipt l = (l.count ≡ count_by (λ (r : ReceiptFields). has_entry r.call) (take l.receipt-index l.receipts)) × (l.count ≤ l.receipt-index)
