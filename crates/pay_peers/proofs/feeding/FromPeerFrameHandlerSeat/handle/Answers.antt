use Rattle.std.proofs.Common.{◌≡◌, [], Err, inr, refl, sym, ap, ◌∙◌, append-nil, rules}
use Rattle.pay_frame.specs.Lent.{fields_of}
use Rattle.pay_member.specs.declared.bringing.Brought.{Brought}
use Rattle.pay_member.specs.Bringing.{with_want}
use Rattle.pay_member.specs.Serving.{bytes_if_any}
use Rattle.pay_peers.proofs.feeding.FromPeerFrameHandlerSeat.handle.Goals as goal

pub returns-in-None : goal.returns-in-None
returns-in-None g c =
    let f = fields_of c.args.frame in
    let received = c.in_ok-received.received in
    let told : c.with_want-brought.result.want ≡ (with_want c.args.self.now.node.now.keys f.from received).want =
    ap (λ (b : Brought). b.want) c.with_want-brought.ensures ∙ (λ i. (with_want (c.keys.ensures i) (c.from-from.ensures.value i) received).want) in
    let want = sym (ap bytes_if_any c.in-None.is) ∙ ap bytes_if_any told in
    record { handles = ([], record { received = received; is = c.in_ok-received.ensures.received; want = want }, sym (append-nil c.args.out.now.items)) }

pub returns-in_err-extend_from_slice-in-Some : goal.returns-in_err-extend_from_slice-in-Some
returns-in_err-extend_from_slice-in-Some g c =
    let err : c.from_residual-in_err-extend_from_slice-in-Some.result ≡ Err c.in_err-extend_from_slice-in-Some.field-0.0 = search rules in
    rw err (record { handles = inr (_, record { received = c.in_ok-received.received; is = c.in_ok-received.ensures.received; want = refl }) })

pub returns-in_ok-extend_from_slice-in-Some : goal.returns-in_ok-extend_from_slice-in-Some
returns-in_ok-extend_from_slice-in-Some g c =
    let f = fields_of c.args.frame in
    let received = c.in_ok-received.received in
    let told : c.with_want-brought.result.want ≡ (with_want c.args.self.now.node.now.keys f.from received).want =
    ap (λ (b : Brought). b.want) c.with_want-brought.ensures ∙ (λ i. (with_want (c.keys.ensures i) (c.from-from.ensures.value i) received).want) in
    let want = sym (ap bytes_if_any c.in-Some.is) ∙ ap bytes_if_any told in
    record {
      handles = (c.in-Some.want, record { received = received; is = c.in_ok-received.ensures.received; want = want }, c.in_ok-extend_from_slice-in-Some.ensures.items);
    }
