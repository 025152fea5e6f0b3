use Rattle.std.proofs.Common.{◌≡◌, ap, sym, ◌∙◌, subst}
use Rattle.std.specs.Option.{option_copied}
use Rattle.std.proofs.lemmas.Option.{same_Some}
use Rattle.pay_frame.specs.Frame.{frame_bytes}
use Rattle.pay_link.specs.Checked.{IsFor, bytes_of}
use Rattle.pay_link.specs.Keys.{KeyFields, key_for}
use Rattle.pay_link.specs.Sealing.{sealed_frame}
use Rattle.pay_member.specs.Member.{MemberFields}
use Rattle.pay_world.proofs.Passing.{comes, frame_is, is_for, sends_this}
use Rattle.pay_world.proofs.world.World.seal_sent.Goals as goal

pub seal_checked-requires-clause-kind : goal.seal_checked-requires-clause-kind
seal_checked-requires-clause-kind g c =
    let giver = c.unwrap-giver.result.now in
    let body = c.unwrap-body.result.now in
    let sends = sends_this c.args.self.now c.args.from c.args.to c.args.number c.requires giver body (sym c.member.ensures.value ∙ ap option_copied c.unwrap-giver.ensures) (sym c.sent.ensures ∙ ap option_copied c.unwrap-body.ensures) in
    (comes c.args.self.now c.args.from c.args.to c.args.number giver c.requires.taker body c.member.ensures.limits sends
    c.forged_is_told.ensures.correct c.what_is_sent.ensures.may_come).3

pub returns-clause-bytes : goal.returns-clause-bytes
returns-clause-bytes g c =
    let giver = c.unwrap-giver.result.now in
    let body = c.unwrap-body.result.now in
    let sends = sends_this c.args.self.now c.args.from c.args.to c.args.number c.requires giver body (sym c.member.ensures.value ∙ ap option_copied c.unwrap-giver.ensures) (sym c.sent.ensures ∙ ap option_copied c.unwrap-body.ensures) in
    let Is : KeyFields → Type 0 = λ k. bytes_of c.in_ok-checked.checked ≡ frame_bytes (sealed_frame k c.args.to c.args.number body) in
    let bytes : Is giver.keys = subst Is c.keys.ensures.value c.in_ok-checked.ensures.bytes in
    bytes ∙ frame_is c.args.self.now c.args.from c.args.to c.args.number giver c.requires.taker body c.member.ensures.limits sends

pub returns-clause-mine : goal.returns-clause-mine
returns-clause-mine g c = λ taker takes.
    let giver = c.unwrap-giver.result.now in
    let body = c.unwrap-body.result.now in
    let sends = sends_this c.args.self.now c.args.from c.args.to c.args.number c.requires giver body (sym c.member.ensures.value ∙ ap option_copied c.unwrap-giver.ensures) (sym c.sent.ensures ∙ ap option_copied c.unwrap-body.ensures) in
    let Is : KeyFields → Type 0 = λ k. c.in_ok-checked.checked ≡ record { frame = sealed_frame k c.args.to c.args.number body; key = key_for k c.args.to } in
    let value : Is giver.keys = subst Is c.keys.ensures.value c.in_ok-checked.ensures.value in
    let mine = is_for c.args.self.now c.args.from c.args.to c.args.number giver c.requires.taker body c.member.ensures.limits sends
    c.forged_is_told.ensures.correct c.what_is_sent.ensures.may_come in
    subst (λ (m : MemberFields). IsFor m.keys c.in_ok-checked.checked)
    (same_Some c.requires.taker taker (sym c.requires.sends.takes ∙ takes))
    (subst (IsFor c.requires.taker.keys) (sym value) mine)
