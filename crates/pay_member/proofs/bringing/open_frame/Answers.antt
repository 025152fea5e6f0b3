use Rattle.std.proofs.Common.{◌≡◌, Err, rules, sym, ap, ◌∙◌, subst}
use Rattle.pay_frame.specs.Lent.{fields_of}
use Rattle.pay_frame.specs.Frame.{FrameFields}
use Rattle.pay_link.specs.Keys.{IsPeer}
use Rattle.pay_member.specs.Bringing.{is_want}
use Rattle.pay_member.proofs.Openings.{frame_refused, frame_wanted, frame_opened, no_want, opened_frame, opened_from_peer, wants_not}
use Rattle.pay_member.proofs.bringing.open_frame.Goals as goal

pub returns-in_err-opened-clause-incoming : goal.returns-in_err-opened-clause-incoming
returns-in_err-opened-clause-incoming g c =
    let err : c.from_residual.result ≡ Err c.in_err-opened.field-0.0 = search rules in
    err ∙ frame_refused c.args.keys.now (fields_of c.args.frame) c.in_err-opened.field-0.0 c.in_err-opened.ensures

pub returns-in-Want-clause-incoming : goal.returns-in-Want-clause-incoming
returns-in-Want-clause-incoming g c =
    let frame = c.frame-frame.ensures.value in
    frame_wanted c.args.keys.now (fields_of c.args.frame) c.in_ok-opened.opened c.kind.result c.from.result c.number.result c.in_ok-opened.ensures
    (c.kind.ensures.value ∙ ap (λ (x : FrameFields). x.body.kind) frame) c.in-Want.is
    (c.from.ensures.value ∙ ap (λ (x : FrameFields). x.from) frame)
    (c.number.ensures.value ∙ ap (λ (x : FrameFields). x.number) frame)

pub returns-in-Want-clause-peer : goal.returns-in-Want-clause-peer
returns-in-Want-clause-peer g c =
    let k = c.args.keys.now in
    let f = fields_of c.args.frame in
    let from = c.from.ensures.value ∙ ap (λ (x : FrameFields). x.from) (c.frame-frame.ensures.value ∙ opened_frame c.judgement_opens.ensures k f c.in_ok-opened.opened c.in_ok-opened.ensures) in
    (subst (IsPeer k) (sym from) (opened_from_peer c.judgement_opens.ensures k f c.in_ok-opened.opened c.in_ok-opened.ensures), from)

pub returns : goal.returns
returns g c =
    let k = c.args.keys.now in
    let f = fields_of c.args.frame in
    let o = c.in_ok-opened.opened in
    let kind = c.kind.ensures.value ∙ ap (λ (x : FrameFields). x.body.kind) c.frame-frame.ensures.value in
    let other = ap is_want (sym kind) ∙ no_want c.kind.result c.in-Send.is in
    record {
      incoming = frame_opened k f o c.in_ok-opened.ensures other;
      peer = (opened_from_peer c.judgement_opens.ensures k f o c.in_ok-opened.ensures, opened_frame c.judgement_opens.ensures k f o c.in_ok-opened.ensures, wants_not o.frame.body.kind other);
    }
