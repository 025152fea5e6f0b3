use Rattle.std.proofs.Common.{◌≡◌, Err, Ok, Some, ap, ◌∙◌, subst}
use Rattle.pay_frame.specs.Lent.{fields_of}
use Rattle.pay_frame.specs.Frame.{FrameFields}
use Rattle.pay_channel.specs.Taken.{next}
use Rattle.pay_link.specs.Keys.{KeyFields}
use Rattle.pay_member.specs.declared.bringing.Incoming.TheVariants.{Message, Want}
use Rattle.pay_member.specs.declared.ledger.Received.{Received}
use Rattle.pay_member.specs.Bringing.{incoming_at, with_want}
use Rattle.pay_member.specs.Events.{events}
use Rattle.pay_member.specs.Serving.{after_frame}
use Rattle.pay_member.proofs.Openings.{fault_in, is_for, opened, want_in}
use Rattle.pay_member.proofs.Servings.{after_none, after_opened, answered_opened, memory_opened, next_opened, none_wanted, on_err, want_is, want_some}
use Rattle.pay_member.proofs.member.Member.bring_frame.Goals as goal

-- ---- a message

pub take_opened-requires-clause-mine : goal.take_opened-requires-clause-mine
take_opened-requires-clause-mine g c =
    let f = fields_of c.args.frame in
    let o = c.in-Ok-Message.opened in
    let k = c.args.self.now.keys in
    let has = opened k f o (subst (λ (k : KeyFields). Ok (Message o) ≡ incoming_at k f) c.keys.ensures.value (rw c.in-Ok-Message.field-0-is at c.in-Ok-Message.ensures.incoming)) in
    let of_peer = (rw c.in-Ok-Message.field-0-is at c.in-Ok-Message.ensures.peer) in
    is_for c.judgement_opens.ensures c.owned_opens_again.ensures.kept k f o c.args.frame.is_frame (λ is. of_peer.2 (ap (λ (x : FrameFields). x.body.kind) of_peer.1 ∙ is)) has

pub returns-in_err-outcome-in-Ok-Message-clause-memory : goal.returns-in_err-outcome-in-Ok-Message-clause-memory
returns-in_err-outcome-in-Ok-Message-clause-memory g c =
    let f = fields_of c.args.frame in
    let o = c.in-Ok-Message.opened in
    let m = c.args.self.now in
    let has = opened m.keys f o (subst (λ (k : KeyFields). Ok (Message o) ≡ incoming_at k f) c.keys.ensures.value (rw c.in-Ok-Message.field-0-is at c.in-Ok-Message.ensures.incoming)) in
    on_err c.from_residual.result (memory_opened (events m.history) m.keys f o has c.in_err-outcome-in-Ok-Message.ensures.memory)

pub returns-in_ok-outcome-in-Ok-Message-clause-want : goal.returns-in_ok-outcome-in-Ok-Message-clause-want
returns-in_ok-outcome-in-Ok-Message-clause-want g c =
    let f = fields_of c.args.frame in
    let o = c.in-Ok-Message.opened in
    let m = c.args.self.now in
    let is = c.in_ok-outcome-in-Ok-Message in
    let after = c.take_opened.new.self in
    let comes = subst (λ (k : KeyFields). Ok (Message o) ≡ incoming_at k f) c.keys.ensures.value (rw c.in-Ok-Message.field-0-is at c.in-Ok-Message.ensures.incoming) in
    let has = opened m.keys f o comes in
    let behind : after ≡ after_frame c.args.stamp m f =
    is.ensures.entry
    ∙ after_opened c.judgement_opens.ensures c.args.stamp m f o is.outcome has
    (answered_opened m.genesis m.keys.own (events m.history) m.keys f o is.outcome comes is.ensures.outcome) in
    let from = c.from-from.ensures.value ∙ ap (λ (x : FrameFields). x.from) c.frame.ensures.value in
    let told = ap Some (c.next.ensures ∙ ap (λ p. next p (events after.history)) from) ∙ next_opened m.keys f o (events after.history) has in
    want_is c.args.stamp m after f _ behind (want_some c.judgement_opens.ensures m.keys f (events after.history) c.next.result told)

pub returns-in_ok-outcome-in-Ok-Message-clause-after : goal.returns-in_ok-outcome-in-Ok-Message-clause-after
returns-in_ok-outcome-in-Ok-Message-clause-after g c =
    let f = fields_of c.args.frame in
    let o = c.in-Ok-Message.opened in
    let m = c.args.self.now in
    let is = c.in_ok-outcome-in-Ok-Message in
    let comes = subst (λ (k : KeyFields). Ok (Message o) ≡ incoming_at k f) c.keys.ensures.value (rw c.in-Ok-Message.field-0-is at c.in-Ok-Message.ensures.incoming) in
    is.ensures.entry
    ∙ after_opened c.judgement_opens.ensures c.args.stamp m f o is.outcome (opened m.keys f o comes)
    (answered_opened m.genesis m.keys.own (events m.history) m.keys f o is.outcome comes is.ensures.outcome)

-- ---- none

pub returns-in-Ok-Want-clause-want : goal.returns-in-Ok-Want-clause-want
returns-in-Ok-Want-clause-want g c =
    let f = fields_of c.args.frame in
    let m = c.args.self.now in
    let comes = subst (λ (k : KeyFields). Ok (Want c.in-Ok-Want.from c.in-Ok-Want.number) ≡ incoming_at k f) c.keys.ensures.value (rw c.in-Ok-Want.field-0-is at c.in-Ok-Want.ensures.incoming) in
    ap (λ (r : Received). (with_want m.keys f.from r).want) c.at_once.ensures ∙ none_wanted c.args.stamp m f (want_in m.keys f c.in-Ok-Want.from c.in-Ok-Want.number comes)

pub returns-in-Ok-Want-clause-after : goal.returns-in-Ok-Want-clause-after
returns-in-Ok-Want-clause-after g c =
    let f = fields_of c.args.frame in
    let m = c.args.self.now in
    let comes = subst (λ (k : KeyFields). Ok (Want c.in-Ok-Want.from c.in-Ok-Want.number) ≡ incoming_at k f) c.keys.ensures.value (rw c.in-Ok-Want.field-0-is at c.in-Ok-Want.ensures.incoming) in
    after_none c.args.stamp m f (want_in m.keys f c.in-Ok-Want.from c.in-Ok-Want.number comes)

pub returns-in-Err-clause-want : goal.returns-in-Err-clause-want
returns-in-Err-clause-want g c =
    let f = fields_of c.args.frame in
    let m = c.args.self.now in
    let comes = subst (λ (k : KeyFields). Err c.in-Err.fault ≡ incoming_at k f) c.keys.ensures.value c.in-Err.ensures.incoming in
    ap (λ (r : Received). (with_want m.keys f.from r).want) c.at_once-in-Err.ensures ∙ none_wanted c.args.stamp m f (fault_in m.keys f c.in-Err.fault comes)

pub returns-in-Err-clause-after : goal.returns-in-Err-clause-after
returns-in-Err-clause-after g c =
    let f = fields_of c.args.frame in
    let m = c.args.self.now in
    let comes = subst (λ (k : KeyFields). Err c.in-Err.fault ≡ incoming_at k f) c.keys.ensures.value c.in-Err.ensures.incoming in
    after_none c.args.stamp m f (fault_in m.keys f c.in-Err.fault comes)
