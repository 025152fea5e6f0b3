use Rattle.std.proofs.Common.{◌≡◌, sym, ap, ◌∙◌, subst}
use Rattle.std.specs.Prelude.{IfSome}
use Rattle.pay_frame.specs.Lent.{fields_of}
use Rattle.pay_link.specs.Keys.{KeyFields, IsPeer}
use Rattle.pay_member.specs.declared.bringing.Brought.{Brought}
use Rattle.pay_member.specs.Bringing.{with_want}
use Rattle.pay_member.specs.Member.{MemberFields}
use Rattle.pay_member.specs.Serving.{bytes_if_any, want_of}
use Rattle.pay_member.proofs.Servings.{keys_after}
use Rattle.pay_member.proofs.serving.FromPeerFrameHandlerMember.handle.Goals as goal

pub with_want-brought-requires : goal.with_want-brought-requires
with_want-brought-requires g c =
    let f = fields_of c.args.frame in
    let m = c.args.member.now in
    let is = c.in_ok-received in
    let keys = c.keys.ensures.value ∙ ap (λ (x : MemberFields). x.keys) is.ensures.after ∙ keys_after c.args.self.now.stamp m f in
    subst (λ (k : KeyFields). IfSome is.received.next (λ _. IsPeer k c.from-from.result)) (sym keys)
    (subst (λ p. IfSome is.received.next (λ _. IsPeer m.keys p)) (sym c.from-from.ensures.value) is.ensures.peer)

pub returns-in_ok-extend_from_slice : goal.returns-in_ok-extend_from_slice
returns-in_ok-extend_from_slice g c =
    let f = fields_of c.args.frame in
    let m = c.args.member.now in
    let is = c.in_ok-received in
    let keys = c.keys.ensures.value ∙ ap (λ (x : MemberFields). x.keys) is.ensures.after ∙ keys_after c.args.self.now.stamp m f in
    let told : c.with_want-brought.result.want ≡ want_of c.args.self.now.stamp m f =
    ap (λ (b : Brought). b.want) c.with_want-brought.ensures
    ∙ (λ i. (with_want (keys i) (c.from-from.ensures.value i) is.received).want)
    ∙ is.ensures.want in
    record {
      handles = (c.in-Some.want, (is.ensures.after, sym (ap bytes_if_any c.in-Some.is) ∙ ap bytes_if_any told), c.in_ok-extend_from_slice.ensures.items);
    }
