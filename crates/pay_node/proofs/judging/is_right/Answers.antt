use Rattle.std.proofs.Common.{◌≡◌, ◌≤◌, false, refl, subst, rules}
use Rattle.std.specs.List.{All, AllPairs}
use Rattle.pay_node.specs.Receipts.{ReceiptFields}
use Rattle.pay_node.specs.Judging.{EachConsistent}
use Rattle.pay_node.specs.Receipts.{entries_after}
use Rattle.pay_node.specs.Seats.{HasItsEntries, Right}
use Rattle.pay_node.proofs.Judged.{judged_so, judged_there, known_right, not_counted}
use Rattle.pay_node.proofs.judging.is_right.Goals as goal

pub returns-then-not-has_its_entries : goal.returns-then-not-has_its_entries
returns-then-not-has_its_entries c =
    let failed : c.has_its_entries.result ≡ false = search rules in
    not_counted c.args.member.now c.args.base c.args.seat.now c.has_its_entries.result c.has_its_entries.ensures failed

pub returns-then-are_in_order : goal.returns-then-are_in_order
returns-then-are_in_order c =
    let its : HasItsEntries c.args.member.now c.args.base c.args.seat.now = search rules in
    let rs = c.receipts-receipts.ensures in
    let since = subst (All (λ (r : ReceiptFields). c.args.base ≤ r.seen)) rs (c.are_in_order.ensures.since (search rules)) in
    let ordered = subst (AllPairs (λ (r later : ReceiptFields). entries_after r ≤ later.seen)) rs (c.are_in_order.ensures.ordered (search rules)) in
    let known : EachConsistent c.args.member.now c.args.seat.now = c.requires.known (search rules) in
    let right : Right c.args.member.now c.args.base c.args.seat.now = known_right _ _ _ its (λ k d within. (since k d within, known k d within)) ordered in
    ((λ _. right), (λ _. refl))

pub returns : goal.returns
returns c =
    let its : HasItsEntries c.args.member.now c.args.base c.args.seat.now = search rules in
    judged_so c.args.member.now c.args.base c.args.seat.now c.are_consistent.result its
    (judged_there c.args.member.now c.in_ok-replay.replay c.replay_to.new.replay c.args.base c.args.seat.now c.stamp-stamp.result c.receipts-receipts.result.now c.are_consistent.result
    c.in_ok-replay.ensures (search rules) c.stamp-stamp.ensures c.receipts-receipts.ensures c.are_consistent.ensures)
