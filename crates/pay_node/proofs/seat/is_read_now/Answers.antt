use Rattle.std.proofs.Common.{◌≡◌, ℕ, length, subst, arith}
use Rattle.std.specs.Prelude.{◌↔◌, IsTrue}
use Rattle.pay_node.specs.Receipts.{reading_at}
use Rattle.pay_node.proofs.Latest.{IsOfThen, now_then, then_now}
use Rattle.pay_node.proofs.seat.is_read_now.Goals as goal

pub returns : goal.returns
returns g c =
    let receipts = c.args.receipts.now in
    let r = reading_at c.args.seen (g.Q.Question.reading c.args.question c.args.answer.now) in
    let all : c.loop-receipt.receipt-index ≡ length receipts = omega (arith, c.loop-receipt-test.false, c.loop-receipt.auto.receipt-index-end) in
    let found : IsTrue c.loop-receipt.is_found ↔ IsOfThen receipts (length receipts) r =
    subst (λ (n : ℕ). IsTrue c.loop-receipt.is_found ↔ IsOfThen receipts n r) all c.loop-receipt.invariant in (
      λ yes'. then_now receipts r (found.0 yes'),
      λ now. found.1 (now_then receipts r now),
    )
