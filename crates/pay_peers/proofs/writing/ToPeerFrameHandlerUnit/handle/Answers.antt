use Rattle.std.proofs.Common.{◌≡◌, ℕ, ◌++◌, [], inl, inr, refl, subst, sym, append-nil, rules, arith}
use Rattle.std.proofs.lemmas.Grind.{common_steps}
use Rattle.pay_frame.specs.Lent.{fields_of}
use Rattle.pay_link.specs.Claims.{IsAskedBy}
use Rattle.pay_link.specs.declared.claims.Asked.TheVariants.{Nothing}
use Rattle.pay_peers.specs.Answering.{IsSentTo, IsWant}
use Rattle.pay_peers.proofs.Wants.{rightly_tagged, same_number}
use Rattle.pay_peers.proofs.writing.ToPeerFrameHandlerUnit.handle.Goals as goal

pub returns-in-Err-None : goal.returns-in-Err-None
returns-in-Err-None g c =
    let none = rw c.keys.ensures at c.in-Err-None.ensures.none in
    let right = rw (c.in-Err-None.field-0-is, c.keys.ensures) at c.in-Err-None.ensures.passed in
    let unasked : (from number : ℕ) → IsWant c.args.self.now.context.now.node.now.keys c.args.self.now.seats.now (fields_of c.args.frame) from number → IsAskedBy number Nothing = λ from number want. absurd (none from number want) in
    record { handles = ([], inr (inr (record { none = unasked; right = right }, refl)), sym (append-nil c.args.out.now.items)) }

pub returns-in-Nothing : goal.returns-in-Nothing
returns-in-Nothing g c =
    let want = rw c.keys.ensures at c.in-Ok.ensures.some in
    let nothing = rw c.in-Nothing.is at c.asked_by.ensures in
    let unasked : (from number : ℕ) → IsWant c.args.self.now.context.now.node.now.keys c.args.self.now.seats.now (fields_of c.args.frame) from number → IsAskedBy number Nothing = λ from number other. subst (λ n. IsAskedBy n Nothing) (same_number _ _ _ _ _ _ _ want other) nothing in
    let right = rightly_tagged _ _ _ _ _ want in
    record { handles = ([], inr (inr (record { none = unasked; right = right }, refl)), sym (append-nil c.args.out.now.items)) }

pub returns-in-Err-Some : goal.returns-in-Err-Some
returns-in-Err-Some g c =
    let unopened = rw (c.in-Err-Some.field-0-is, c.keys.ensures) at c.in-Err-Some.ensures.unopened in
    record { handles = (inr unopened.fault, refl, refl) }

pub returns-in_ok-extend_from_slice-in-Some : goal.returns-in_ok-extend_from_slice-in-Some
returns-in_ok-extend_from_slice-in-Some g c =
    let want = rw c.keys.ensures at c.in-Ok.ensures.some in
    let sent : IsSentTo c.args.self.now.context.now.node.now c.in-Ok.wanted.seated.now.0 c.in-Ok.wanted.number c.in-Some.bytes.items = rw c.in-Some.is at c.in_ok-answer.ensures in
    let longer : c.extend_from_slice-in-Some.new.self.items ≡ c.args.out.now.items ++ c.in-Some.bytes.items = search rules in
    let place = (rw c.in-Place.is at c.asked_by.ensures).1 in
    record {
      handles = (
        c.in-Some.bytes.items,
        inl (record { from = c.in-Ok.wanted.seated.now.0; number = c.in-Ok.wanted.number; want = want; place = place; sent = sent }),
        longer,
      );
    }

pub returns-then-not-goes_on : goal.returns-then-not-goes_on
returns-then-not-goes_on g c = grind (arith, common_steps)
