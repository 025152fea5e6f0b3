-- Entries of histories that a member can have.
use Rattle.std.proofs.Common.{◌≡◌, ℕ, ◌<◌, List, Option, None, Some, Bool, true, false, ◌&&◌, ◌==◌, not, length, refl, sym, subst, arith}
use Rattle.std.specs.Prelude.{nat_lt, if◌then◌else◌}
use Rattle.std.specs.Str.{bytes_eq}
use Rattle.std.proofs.lemmas.Bool.{and_parts}
use Rattle.std.proofs.lemmas.Bool.Decides.{nat_tests}
use Rattle.std.proofs.lemmas.Slice.Eq.{bytes_eq-Decides}
use Rattle.pay_channel.specs.History as channel
use Rattle.pay_channel.specs.Taken.{next}
use Rattle.pay_link.specs.Checked.{CheckedFields, IsFor}
use Rattle.pay_link.specs.Genesis.{GenesisFields, IsGenesis}
use Rattle.pay_link.specs.Keys.{KeyFields, is_peer, key_for}
use Rattle.pay_member.specs.declared.event.Event.{Event}
use Rattle.pay_member.specs.declared.event.Event.TheVariants.{Ask, Taken, Query}
use Rattle.pay_member.specs.declared.fault.MemberFault.{MemberFault}
use Rattle.pay_member.specs.declared.fault.MemberFault.TheVariants.{WrongKey}
use Rattle.pay_member.specs.declared.event.Reply.{Reply}
use Rattle.pay_member.specs.Legal.{IsStorable}
use Rattle.pay_member.specs.Refusal.{is_for_member, refusal, turn_refusal}
use Rattle.pay_member.specs.Reply.{reply_to}
use Rattle.pay_record.specs.Loggable.{FitsEvent, FitsReply, FitsRecord, IsIdOf, IsNumbered}

pub unrefused : (g : GenesisFields) (k : KeyFields) (before : List channel.Event) (e : Event) → refusal g k before e ≡ None → FitsRecord e
unrefused g k before (Ask v) none = grind (arith, nat_tests, none)
unrefused g k before (Taken c) none = tt
unrefused g k before (Query a) none = tt

passed : (b : Bool) (o : Option MemberFault) → (if b then o else Some WrongKey) ≡ None → b ≡ true
passed true o none = refl
passed false o none = absurd cc

other : (n m : ℕ) → not (n == m) ≡ true → n ≡ m → ⊥
other n m differ same = grind (arith, nat_tests, differ, same)

for_member : (k : KeyFields) (c : CheckedFields) → is_for_member k c ≡ true → IsFor k c
for_member k c mine =
    let to = c.frame.to == k.own in
    let peer = is_peer k c.frame.from in
    let owner = nat_lt c.frame.body.owner (length k.keys) in
    let key = bytes_eq c.key (key_for k c.frame.from) in
    let three = and_parts (to && peer && owner) key mine in
    let two = and_parts (to && peer) owner three.0 in
    let one = and_parts to peer two.0 in
    let sender = and_parts (nat_lt c.frame.from (length k.keys)) (not (c.frame.from == k.own)) one.1 in
    record {
      receiver = grind (arith, nat_tests, one.0);
      sender = (grind (arith, nat_tests, sender.0), other c.frame.from k.own sender.1);
      owner = grind (arith, nat_tests, two.1);
      key = (bytes_eq-Decides c.key (key_for k c.frame.from)).0 three.1;
    }

pub fits_event : (g : GenesisFields) (k : KeyFields) (before : List channel.Event) (e : Event) → IsGenesis g → IsStorable e → refusal g k before e ≡ None → FitsEvent k e
fits_event g k before (Ask v) genesis kept none = unrefused g k before (Ask v) none
fits_event g k before (Taken c) genesis kept none =
    (kept.0, for_member k c (passed (is_for_member k c) (turn_refusal (next c.frame.from before) c.frame.number) none))
fits_event g k before (Query a) genesis kept none =
    let small : a < g.members = grind (arith, nat_tests, none) in
    omega (arith, small, genesis.few)

pub fits_reply : (g : GenesisFields) (own : ℕ) (before : List channel.Event) (e : Event) (id : ℕ) (reply : Reply) → reply ≡ reply_to g own before e → IsNumbered reply → IsIdOf e id → FitsReply e id reply
fits_reply g own before (Ask v) id reply is numbered id_is =
    subst (λ (r : Reply). FitsReply (Ask v) id r) (sym is) (id_is, subst (λ (r : Reply). IsNumbered r) is numbered)
fits_reply g own before (Taken c) id reply is numbered id_is =
    subst (λ (r : Reply). FitsReply (Taken c) id r) (sym is) (id_is, subst (λ (r : Reply). IsNumbered r) is numbered)
fits_reply g own before (Query a) id reply is numbered id_is =
    let n = subst (λ (r : Reply). IsNumbered r) is numbered in
    subst (λ (r : Reply). FitsReply (Query a) id r) (sym is) (id_is, n.0, n.1, n.2)
