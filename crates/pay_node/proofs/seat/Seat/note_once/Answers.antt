use Rattle.std.proofs.Common.{rules, ◌≡◌, ◌∙◌, ◌++◌, [], ◌∷◌, Some, None, sym, subst, length, slice_get, List, arith}
use Rattle.std.proofs.lemmas.Grind.{common_steps}
use Rattle.pay_frame.specs.Frame.{BodyFields}
use Rattle.pay_member.specs.declared.reading.Reading.TheVariants as reading
use Rattle.pay_node.specs.Keeping.{IsKeptFor, IsKeptOnce}
use Rattle.pay_node.specs.Receipts.{reading_at, reading_receipt}
use Rattle.pay_node.specs.Seats.{KeepsReceipt}
use Rattle.pay_node.specs.Sending.{sent_by}
use Rattle.pay_node.proofs.Kept.{kept_now, kept_stays, none_shown}
use Rattle.pay_node.proofs.seat.Seat.note_once.Goals as goal

pub note-requires : goal.note-requires
note-requires c =
    let none : slice_get (sent_by c.args.member.now) c.args.number ≡ None = search rules in
    let empty : c.new-none.result ≡ [] = search rules in
    record { shown = empty ∙ none_shown c.args.member.now c.args.number none }

pub returns-in_ok-note-in-None-clause-noted : goal.returns-in_ok-note-in-None-clause-noted
returns-in_ok-note-in-None-clause-noted c =
    let none : slice_get (sent_by c.args.member.now) c.args.number ≡ None = search rules in
    let empty : c.new-none.result ≡ [] = search rules in (
      none_shown c.args.member.now c.args.number none,
      subst (λ (xs : List BodyFields). KeepsReceipt c.args.self.now c.note.new.self (reading_at (length c.args.member.now.history) (reading.Sent c.args.number 1 xs)))
          empty c.in_ok-note-in-None.ensures.receipt,
    )

pub returns-in_ok-keep_body-in-Some-clause-noted : goal.returns-in_ok-keep_body-in-Some-clause-noted
returns-in_ok-keep_body-in-Some-clause-noted c =
    let m = c.args.member.now in
    let body = c.in-Some.body.now in
    let sent : slice_get (sent_by m) c.args.number ≡ Some body = search rules in
    let unkept : ¬ (IsKeptFor c.args.self.now c.args.number body) = search rules in
    let does = c.in_ok-keep_body-in-Some.ensures in
    let receipt : c.keep_body.new.self.receipts ≡ c.args.self.now.receipts ++ reading_receipt (length m.history) (reading.Sent c.args.number 1 (body ∷ [])) = search rules in
    subst (λ (x : BodyFields). IsKeptOnce m c.args.self.now c.keep_body.new.self c.args.number x) (sym c.in_ok-found-in-Some.ensures)
    (kept_now m c.args.self.now c.keep_body.new.self c.args.number body sent unkept does.stamp receipt does.mark does.others does.room)

pub returns-in_ok-keep_body-in-Some-clause-own : goal.returns-in_ok-keep_body-in-Some-clause-own
returns-in_ok-keep_body-in-Some-clause-own c =
    let m = c.args.member.now in
    let body = c.in-Some.body.now in
    let sent : slice_get (sent_by m) c.args.number ≡ Some body = search rules in
    let receipt : c.keep_body.new.self.receipts ≡ c.args.self.now.receipts ++ reading_receipt (length m.history) (reading.Sent c.args.number 1 (body ∷ [])) = search rules in
    kept_stays m c.args.self.now c.keep_body.new.self c.args.number body sent c.in_ok-keep_body-in-Some.ensures.stamp receipt

pub returns-in_err-note-in-None-clause-err : goal.returns-in_err-note-in-None-clause-err
returns-in_err-note-in-None-clause-err c = grind (arith, common_steps)

pub returns-in_ok-note-in-None-clause-own : goal.returns-in_ok-note-in-None-clause-own
returns-in_ok-note-in-None-clause-own c = grind (arith, common_steps)
