use Rattle.std.proofs.Common.{◌≡◌, eqb, List, drop, ap, ◌∙◌}
use Rattle.std.specs.List.{count_by}
use Rattle.pay_member.specs.declared.event.HistoryEntry.{HistoryEntry}
use Rattle.pay_node.specs.Receipts.{ReceiptFields}
use Rattle.pay_node.specs.Receipts.{has_entry}
use Rattle.pay_node.specs.Seats.{entries_told, entries_under, since}
use Rattle.pay_node.proofs.Judged.{has_its}
use Rattle.pay_node.proofs.judging.has_its_entries.Goals as goal

pub returns : goal.returns
returns c =
    let at : c.entries_since-since.result.now ≡ drop c.args.base c.args.member.now.history = c.entries_since-since.ensures ∙ ap (drop c.args.base) c.history.ensures.value in
    let under : c.entries_under.result ≡ entries_under c.args.seat.now.stamp (since c.args.base c.args.member.now) = c.entries_under.ensures ∙ (λ i. count_by (λ (e : HistoryEntry). eqb e.stamp (c.stamp.ensures i)) (at i)) in
    let told : c.entries_told.result ≡ entries_told c.args.seat.now = c.entries_told.ensures ∙ ap (λ (l : List ReceiptFields). count_by (λ (r : ReceiptFields). has_entry r.call) l) c.receipts.ensures in
    has_its c.args.member.now c.args.base c.args.seat.now c.entries_under.result c.entries_told.result under told
