use Rattle.std.proofs.Common.{◌≡◌, ◌<◌, ◌^◌, Ok, Err, sym, ap, ◌∙◌, subst}
use Rattle.std.specs.Option.{option_copied}
use Rattle.pay_frame.specs.Frame.{IsFrame}
use Rattle.pay_channel.specs.Taken.{next}
use Rattle.pay_link.specs.Fronts.{turn}
use Rattle.pay_link.specs.Sealing.{sealed_frame}
use Rattle.pay_member.specs.Events.{events}
use Rattle.pay_world.proofs.Passing.{giver_own, passed_over, passing_taken, passing_unforged, sends_these}
use Rattle.pay_world.proofs.world.World.out_of_turn.Goals as goal

pub returns-in-Ok-clause-unforged : goal.returns-in-Ok-clause-unforged
returns-in-Ok-clause-unforged g c =
    let w = c.args.self.now in
    let giver = c.unwrap-giver.result.now in
    let body = c.unwrap-body.result.now in
    let taker = c.unwrap-taker.result.now in
    let sends = sends_these w c.args.from c.args.to c.args.number c.requires giver taker body (sym c.member.ensures.value ∙ ap option_copied c.unwrap-giver.ensures)
    (sym c.sent.ensures ∙ ap option_copied c.unwrap-body.ensures) (sym c.member-2.ensures.value ∙ ap option_copied c.unwrap-taker.ensures) in
    let fits : IsFrame (sealed_frame giver.keys c.args.to c.args.number body) = record {
      from = subst (λ n. n < 2 ^ 16) (sym (giver_own w c.args.from c.args.to c.args.number giver taker body c.member.ensures.limits sends)) c.ranges.from.fits;
      to = c.ranges.to.fits;
      number = c.ranges.number.fits;
      body = c.value.ensures.limits;
      tag = c.tag_length.ensures _ _;
    } in
    passing_unforged w c.args.from c.args.to c.args.number giver taker body c.member.ensures.limits sends
    c.forged_is_told.ensures.correct c.forged_is_told.ensures.forged c.what_is_sent.ensures.may_come c.what_is_brought.ensures.opened fits

pub returns-in-Ok-clause-taken : goal.returns-in-Ok-clause-taken
returns-in-Ok-clause-taken g c =
    let w = c.args.self.now in
    let giver = c.unwrap-giver.result.now in
    let body = c.unwrap-body.result.now in
    let taker = c.unwrap-taker.result.now in
    let sends = sends_these w c.args.from c.args.to c.args.number c.requires giver taker body (sym c.member.ensures.value ∙ ap option_copied c.unwrap-giver.ensures)
    (sym c.sent.ensures ∙ ap option_copied c.unwrap-body.ensures) (sym c.member-2.ensures.value ∙ ap option_copied c.unwrap-taker.ensures) in
    let fits : IsFrame (sealed_frame giver.keys c.args.to c.args.number body) = record {
      from = subst (λ n. n < 2 ^ 16) (sym (giver_own w c.args.from c.args.to c.args.number giver taker body c.member.ensures.limits sends)) c.ranges.from.fits;
      to = c.ranges.to.fits;
      number = c.ranges.number.fits;
      body = c.value.ensures.limits;
      tag = c.tag_length.ensures _ _;
    } in
    let turned : turn (next c.args.from (events taker.history)) c.args.number ≡ Ok c.in-Ok.field-0 = ap (λ n. turn n c.args.number) (sym c.next.ensures) ∙ sym c.turn.ensures ∙ c.in-Ok.is in
    passing_taken w c.args.from c.args.to c.args.number giver taker body c.member.ensures.limits sends
    c.forged_is_told.ensures.correct c.what_is_sent.ensures.may_come c.what_is_brought.ensures.opened c.what_is_brought.ensures.event fits c.in-Ok.field-0 turned

pub returns-in-Err-clause-unforged : goal.returns-in-Err-clause-unforged
returns-in-Err-clause-unforged g c =
    let w = c.args.self.now in
    let giver = c.unwrap-giver.result.now in
    let body = c.unwrap-body.result.now in
    let taker = c.unwrap-taker.result.now in
    let sends = sends_these w c.args.from c.args.to c.args.number c.requires giver taker body (sym c.member.ensures.value ∙ ap option_copied c.unwrap-giver.ensures)
    (sym c.sent.ensures ∙ ap option_copied c.unwrap-body.ensures) (sym c.member-2.ensures.value ∙ ap option_copied c.unwrap-taker.ensures) in
    let fits : IsFrame (sealed_frame giver.keys c.args.to c.args.number body) = record {
      from = subst (λ n. n < 2 ^ 16) (sym (giver_own w c.args.from c.args.to c.args.number giver taker body c.member.ensures.limits sends)) c.ranges.from.fits;
      to = c.ranges.to.fits;
      number = c.ranges.number.fits;
      body = c.value.ensures.limits;
      tag = c.tag_length.ensures _ _;
    } in
    passing_unforged w c.args.from c.args.to c.args.number giver taker body c.member.ensures.limits sends
    c.forged_is_told.ensures.correct c.forged_is_told.ensures.forged c.what_is_sent.ensures.may_come c.what_is_brought.ensures.opened fits

pub returns-in-Err-clause-answers : goal.returns-in-Err-clause-answers
returns-in-Err-clause-answers g c =
    let w = c.args.self.now in
    let giver = c.unwrap-giver.result.now in
    let body = c.unwrap-body.result.now in
    let taker = c.unwrap-taker.result.now in
    let sends = sends_these w c.args.from c.args.to c.args.number c.requires giver taker body (sym c.member.ensures.value ∙ ap option_copied c.unwrap-giver.ensures)
    (sym c.sent.ensures ∙ ap option_copied c.unwrap-body.ensures) (sym c.member-2.ensures.value ∙ ap option_copied c.unwrap-taker.ensures) in
    let fits : IsFrame (sealed_frame giver.keys c.args.to c.args.number body) = record {
      from = subst (λ n. n < 2 ^ 16) (sym (giver_own w c.args.from c.args.to c.args.number giver taker body c.member.ensures.limits sends)) c.ranges.from.fits;
      to = c.ranges.to.fits;
      number = c.ranges.number.fits;
      body = c.value.ensures.limits;
      tag = c.tag_length.ensures _ _;
    } in
    let turned : turn (next c.args.from (events taker.history)) c.args.number ≡ Err c.in-Err.fault = ap (λ n. turn n c.args.number) (sym c.next.ensures) ∙ sym c.turn.ensures ∙ c.in-Err.is in
    passed_over w c.args.from c.args.to c.args.number giver taker body c.member.ensures.limits sends
    c.forged_is_told.ensures.correct c.what_is_sent.ensures.may_come c.what_is_brought.ensures.opened c.sealed_opens.ensures fits c.in-Err.fault turned
