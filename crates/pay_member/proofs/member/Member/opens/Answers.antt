use Rattle.std.proofs.Common.{◌≡◌, Err, Ok, sym, ◌∙◌, subst}
use Rattle.pay_frame.specs.Lent.{fields_of}
use Rattle.pay_link.specs.Keys.{KeyFields}
use Rattle.pay_member.specs.declared.bringing.Incoming.TheVariants.{Message, Want}
use Rattle.pay_member.specs.Bringing.{incoming_at}
use Rattle.pay_member.proofs.Openings.{fault_in, frame_in, message_in, no_frame_in, opened, want_in}
use Rattle.pay_member.proofs.member.Member.opens.Goals as goal

pub returns-in-Ok-Message : goal.returns-in-Ok-Message
returns-in-Ok-Message g c =
    let f = fields_of c.in-Ok.frame in
    let o = c.in-Ok-Message.opened in
    let k = c.args.self.now.keys in
    let comes = subst (λ (k : KeyFields). Ok (Message o) ≡ incoming_at k f) c.keys.ensures.value (rw c.in-Ok-Message.field-0-is at c.in-Ok-Message.ensures.incoming) in
    sym (frame_in c.one_frame_is.ensures.law k c.args.bytes.now f c.in-Ok.ensures.one ∙ message_in k f o (opened k f o comes))

pub returns-in-Ok-Want : goal.returns-in-Ok-Want
returns-in-Ok-Want g c =
    let f = fields_of c.in-Ok.frame in
    let k = c.args.self.now.keys in
    let comes = subst (λ (k : KeyFields). Ok (Want c.in-Ok-Want.field-0-0 c.in-Ok-Want.field-0-1) ≡ incoming_at k f) c.keys.ensures.value (rw c.in-Ok-Want.field-0-is at c.in-Ok-Want.ensures.incoming) in
    sym (frame_in c.one_frame_is.ensures.law k c.args.bytes.now f c.in-Ok.ensures.one ∙ want_in k f c.in-Ok-Want.field-0-0 c.in-Ok-Want.field-0-1 comes)

pub returns-in-Err-open_frame : goal.returns-in-Err-open_frame
returns-in-Err-open_frame g c =
    let f = fields_of c.in-Ok.frame in
    let k = c.args.self.now.keys in
    let fault = c.in-Err-open_frame.field-0 in
    let comes = subst (λ (k : KeyFields). Err fault ≡ incoming_at k f) c.keys.ensures.value c.in-Err-open_frame.ensures.incoming in
    sym (frame_in c.one_frame_is.ensures.law k c.args.bytes.now f c.in-Ok.ensures.one ∙ fault_in k f fault comes)

pub returns-in-Err : goal.returns-in-Err
returns-in-Err g c = sym (no_frame_in c.one_frame_is.ensures.none c.args.self.now.keys c.args.bytes.now c.in-Err.field-0 c.in-Err.ensures.one)
