use Rattle.std.proofs.Common.{◌≡◌, length, rules}
use Rattle.pay_node.specs.Receipts.{reading_at, reading_receipt}
use Rattle.pay_node.specs.Seats.{IsOfNow, SeatFields, latest, with_receipts}
use Rattle.pay_node.proofs.Latest.{kept_already, kept_more}
use Rattle.pay_node.proofs.Rights.{reading_stays}
use Rattle.pay_node.proofs.seat.Seat.note.Goals as goal

pub returns-then-is_read_now-clause-receipt : goal.returns-then-is_read_now-clause-receipt
returns-then-is_read_now-clause-receipt g c =
    let found : IsOfNow (latest c.args.self.now) (reading_at (length c.args.member.now.history) (g.Q.Question.reading c.args.question c.args.answer.now)) = search rules in
    kept_already c.args.self.now (reading_at (length c.args.member.now.history) (g.Q.Question.reading c.args.question c.args.answer.now)) found

pub returns-clause-receipt : goal.returns-clause-receipt
returns-clause-receipt g c =
    let r = reading_at (length c.args.member.now.history) (g.Q.Question.reading c.args.question c.args.answer.now) in
    let after : SeatFields = record { stamp = c.self.inside.stamp; receipts = c.push.new.self.items; marks = c.self.inside.marks } in
    let missing : ¬ (IsOfNow (latest c.args.self.now) r) = search rules in
    let at : after ≡ with_receipts c.args.self.now (reading_receipt (length c.args.member.now.history) (g.Q.Question.reading c.args.question c.args.answer.now)) = search rules in
    kept_more c.args.self.now after r missing at

pub returns-clause-own : goal.returns-clause-own
returns-clause-own g c =
    let after : SeatFields = record { stamp = c.self.inside.stamp; receipts = c.push.new.self.items; marks = c.self.inside.marks } in
    let at : after ≡ with_receipts c.args.self.now (reading_receipt (length c.args.member.now.history) (g.Q.Question.reading c.args.question c.args.answer.now)) = search rules in
    reading_stays c.args.member.now c.args.self.now after (g.Q.Question.reading c.args.question c.args.answer.now) c.requires.shown at
