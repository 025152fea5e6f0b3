use Rattle.std.specs.Prelude.{◌↔◌, IsTrue}
use Rattle.pay_node.specs.Receipts.{reading_at}
use Rattle.pay_node.proofs.Latest.{IsOfThen}
use Rattle.pay_node.proofs.seat.is_read_now.Given as goal

abbrev pub invariant-loop-receipt : goal.invariant-loop-receipt
invariant-loop-receipt g l = IsTrue l.is_found ↔ IsOfThen l.receipts l.receipt-index (reading_at l.seen (g.Q.Question.reading l.question l.answer))
