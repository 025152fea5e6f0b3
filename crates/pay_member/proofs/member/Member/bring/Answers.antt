use Rattle.std.proofs.Common.{Err, Ok, sym, ap, ◌∙◌, subst}
use Rattle.std.specs.Prelude.{IfSome}
use Rattle.pay_frame.specs.Lent.{fields_of}
use Rattle.pay_link.specs.Keys.{KeyFields, IsPeer}
use Rattle.pay_member.specs.declared.bringing.Brought.{Brought}
use Rattle.pay_member.specs.Bringing.{incoming_at, with_want}
use Rattle.pay_member.specs.Events.{events}
use Rattle.pay_member.specs.Member.{MemberFields}
use Rattle.pay_member.proofs.Openings.{frame_in, no_frame_in}
use Rattle.pay_member.proofs.Bringings.{key_named, of_fault, of_frame}
use Rattle.pay_member.proofs.Servings.{entry_of_bytes, events_of_bytes, events_of_none, keys_after, memory_of_bytes, on_err, want_of_bytes, want_of_none}
use Rattle.pay_member.proofs.member.Member.bring.Goals as goal

-- ---- no frame

pub returns-in-Err-clause-outcome : goal.returns-in-Err-clause-outcome
returns-in-Err-clause-outcome g c =
    let m = c.args.self.now in
    record {
      reading = Err c.in-Err.fault;
      reads = c.in-Err.ensures.one;
      is = ap (λ (b : Brought). b.outcome) c.at_once.ensures ∙ of_fault m.genesis m.keys (events m.history) c.in-Err.fault;
    }

pub returns-in-Err-clause-want : goal.returns-in-Err-clause-want
returns-in-Err-clause-want g c =
    let k = c.args.self.now.keys in
    let none = no_frame_in c.one_frame_is.ensures.none k c.args.bytes.now c.in-Err.fault c.in-Err.ensures.one in
    ap (λ (b : Brought). b.want) c.at_once.ensures ∙ want_of_none k (events c.args.self.now.history) c.args.bytes.now none

pub returns-in-Err-clause-events : goal.returns-in-Err-clause-events
returns-in-Err-clause-events g c =
    let k = c.args.self.now.keys in
    events_of_none k (events c.args.self.now.history) c.args.bytes.now (no_frame_in c.one_frame_is.ensures.none k c.args.bytes.now c.in-Err.fault c.in-Err.ensures.one)

-- ---- a frame

pub returns-in_err-received-clause-memory : goal.returns-in_err-received-clause-memory
returns-in_err-received-clause-memory g c =
    let f = fields_of c.in-Ok.frame in
    let m = c.args.self.now in
    let found = frame_in c.one_frame_is.ensures.law m.keys c.args.bytes.now f c.in-Ok.ensures.one in
    on_err c.from_residual.result (memory_of_bytes m.keys (events m.history) f c.args.bytes.now found c.in_err-received.ensures.memory)

pub with_want-requires : goal.with_want-requires
with_want-requires g c =
    let f = fields_of c.in-Ok.frame in
    let m = c.args.self.now in
    let keys = c.keys.ensures.value ∙ ap (λ (x : MemberFields). x.keys) c.in_ok-received.ensures.after ∙ keys_after c.args.stamp m f in
    subst (λ (k : KeyFields). IfSome c.in_ok-received.received.next (λ _. IsPeer k c.from-from.result)) (sym keys)
    (subst (λ p. IfSome c.in_ok-received.received.next (λ _. IsPeer m.keys p)) (sym c.from-from.ensures.value) c.in_ok-received.ensures.peer)

pub returns-clause-outcome : goal.returns-clause-outcome
returns-clause-outcome g c =
    let f = fields_of c.in-Ok.frame in
    let m = c.args.self.now in
    record {
      reading = Ok f;
      reads = c.in-Ok.ensures.one;
      is = ap (λ (b : Brought). b.outcome) c.with_want.ensures ∙ c.in_ok-received.ensures.outcome ∙ sym (of_frame m.genesis m.keys (events m.history) f);
    }

pub returns-clause-own_key : goal.returns-clause-own_key
returns-clause-own_key g c =
    let f = fields_of c.in-Ok.frame in
    let m = c.args.self.now in
    let told = ap (λ (b : Brought). b.outcome) c.with_want.ensures ∙ c.in_ok-received.ensures.outcome in
    λ wrong. key_named m.genesis m.keys.own (events m.history) (incoming_at m.keys f) (sym told ∙ wrong)

pub returns-clause-want : goal.returns-clause-want
returns-clause-want g c =
    let f = fields_of c.in-Ok.frame in
    let m = c.args.self.now in
    let keys = c.keys.ensures.value ∙ ap (λ (x : MemberFields). x.keys) c.in_ok-received.ensures.after ∙ keys_after c.args.stamp m f in
    let found = frame_in c.one_frame_is.ensures.law m.keys c.args.bytes.now f c.in-Ok.ensures.one in
    ap (λ (b : Brought). b.want) c.with_want.ensures
    ∙ (λ i. (with_want (keys i) (c.from-from.ensures.value i) c.in_ok-received.received).want)
    ∙ c.in_ok-received.ensures.want
    ∙ want_of_bytes c.args.stamp m c.bring_frame.new.self f c.args.bytes.now c.in_ok-received.ensures.after found

pub returns-clause-entry : goal.returns-clause-entry
returns-clause-entry g c =
    let f = fields_of c.in-Ok.frame in
    let m = c.args.self.now in
    let found = frame_in c.one_frame_is.ensures.law m.keys c.args.bytes.now f c.in-Ok.ensures.one in
    let told = ap (λ (b : Brought). b.outcome) c.with_want.ensures ∙ c.in_ok-received.ensures.outcome in
    entry_of_bytes c.args.stamp m c.bring_frame.new.self f c.args.bytes.now c.with_want.result.outcome c.in_ok-received.ensures.after told found

pub returns-clause-events : goal.returns-clause-events
returns-clause-events g c =
    let f = fields_of c.in-Ok.frame in
    let m = c.args.self.now in
    let found = frame_in c.one_frame_is.ensures.law m.keys c.args.bytes.now f c.in-Ok.ensures.one in
    events_of_bytes c.args.stamp m c.bring_frame.new.self f c.args.bytes.now c.in_ok-received.ensures.after found
