-- Asking ahead by one frame.
use Rattle.std.proofs.Common.{◌≡◌, ℕ, ◌+◌, ◌-◌, ◌^◌, ◌<◌, ◌≤◌, cond, ltb, Bool, true, false, if◌then◌else◌, List, [], ◌∷◌, Option, Some, None, Result, Ok, Err, refl, sym, ap, ◌∙◌, subst, arith, append-nil, length}
use Rattle.std.proofs.lemmas.Bool.{lt-ltb}
use Rattle.std.specs.Option.{option_map}
use Rattle.std.specs.Str.{bytes_eq}
use Rattle.std.specs.Prelude.{◌==◌, nat_lt}
use Rattle.pay_frame.specs.Frame.{FrameFields, frame_bytes}
use Rattle.pay_link.specs.Keys.{KeyFields, is_peer, key_for}
use Rattle.pay_link.specs.Opening.{OpenedFields, judgement, opened_fields, right_tag}
use Rattle.pay_link.specs.Sealing.{want_frame}
use Rattle.pay_link.specs.declared.opened.LinkFault.{LinkFault}
use Rattle.pay_link.specs.declared.opened.LinkFault.TheVariants.{NotForMe, UnknownSender, UnknownOwner, BadTag}
use Rattle.pay_member.specs.declared.bringing.Incoming.{Incoming}
use Rattle.pay_member.specs.declared.bringing.Incoming.TheVariants.{Message, Want}
use Rattle.pay_member.specs.declared.ledger.Received.{Received}
use Rattle.pay_member.specs.declared.bringing.Outcome.TheVariants.{Link}
use Rattle.pay_member.specs.declared.fault.TakeFault.{TakeFault}
use Rattle.pay_member.specs.declared.fault.TakeFault.TheVariants as fault
use Rattle.pay_member.specs.declared.event.Took.{Took as Reply}
use Rattle.pay_member.specs.Bringing.{incoming_at, incoming_of, is_want}
use Rattle.pay_member.specs.Serving.{bytes_if_any}
use Rattle.pay_node.specs.Nodes.{IsAnsweredAs, NodeFields, next_of, outcome_of_take}
use Rattle.pay_node.specs.Seats.{SeatFields}
use Rattle.pay_peers.specs.declared.window.Window.{Window}
use Rattle.pay_peers.specs.Ahead.{next_told, wants}
use Rattle.pay_peers.specs.AheadLaws.{AheadByOne, CameInOrder}
use Rattle.pay_peers.specs.Window.{asked_behind, window_behind}
use Rattle.pay_peers.proofs.Behind.{one_behind}
use Rattle.pay_peers.proofs.Wants.{OpenedIs}

-- ---- what is answered before the history is looked at tells no next number

NoNext : Result Incoming LinkFault → Type 0
NoNext (Ok i) = Unit {0}
NoNext (Err fault) = (number : ℕ) → next_told (Link fault) number ≡ None

early : Result OpenedFields LinkFault → Type 0
early j = NoNext (incoming_of j)

pick : (b : Bool) (x y : Result OpenedFields LinkFault) → early x → early y → early (if b then x else y)
pick true x y one other = one
pick false x y one other = other

not_for_me : early (Err NotForMe)
unfolding NoNext early
not_for_me number = refl

unknown_sender : early (Err UnknownSender)
unfolding NoNext early
unknown_sender number = refl

unknown_owner : early (Err UnknownOwner)
unfolding NoNext early
unknown_owner number = refl

bad_tag : early (Err BadTag)
unfolding NoNext early
bad_tag number = refl

opened_early : (o : OpenedFields) → early (Ok o)
unfolding NoNext early
opened_early o = tt

tells_none : (k : KeyFields) (f : FrameFields) → early (judgement k f)
unfolding judgement
tells_none k f =
    pick (f.to == k.own) _ _
    (pick (is_peer k f.from) _ _
    (pick (nat_lt f.body.owner (length k.keys)) _ _
    (pick (bytes_eq f.tag (right_tag (key_for k f.from) f)) _ _ (opened_early (opened_fields k f)) bad_tag)
    unknown_owner)
    unknown_sender)
    not_for_me

-- ---- what is answered of a frame that opened

-- the WANT to a peer for a number, if there is one
abbrev want_to : KeyFields → ℕ → Option ℕ → Option (List ℕ)
want_to k from next = option_map (λ number. frame_bytes (want_frame k from number)) next

-- the WANT of a number, and no more
alone : (k : KeyFields) (peer number : ℕ) (numbers : List ℕ) → numbers ≡ number ∷ [] → wants k peer numbers ≡ frame_bytes (want_frame k peer number)
alone k peer number numbers is = ap (wants k peer) is ∙ append-nil (frame_bytes (want_frame k peer number))

-- both ways the same WANT, and one frame is under way
record IsSame (k : KeyFields) (peer : ℕ) (w : Window) (next : Option ℕ) (want : Option (List ℕ)) : Type 0 where
  text : wants k peer (asked_behind 1 w next) ≡ bytes_if_any want
  one : (window_behind 1 w next).asked ≡ (window_behind 1 w next).due + 1

same_none : (k : KeyFields) (peer : ℕ) (w : Window) (next : Option ℕ) (want : Option (List ℕ)) → w.asked ≡ w.due + 1 → next ≡ None → want ≡ None → IsSame k peer w next want
same_none k peer w next want one no_next no_want =
    subst (λ x. IsSame k peer w x want) (sym no_next) (subst (λ x. IsSame k peer w None x) (sym no_want) (record { text = refl; one = one }))

same_some : (k : KeyFields) (peer : ℕ) (w : Window) (number : ℕ) (next : Option ℕ) (want : Option (List ℕ)) → w.asked ≡ w.due + 1 → w.asked ≤ number → number < 2 ^ 64 - 1
    → next ≡ Some number → want ≡ Some (frame_bytes (want_frame k peer number)) → IsSame k peer w next want
same_some k peer w number next want one above numbers told is =
    let behind = one_behind w number one above numbers in
    subst (λ x. IsSame k peer w x want) (sym told) (record {
      text = alone k peer number (asked_behind 1 w (Some number)) behind.0 ∙ sym (ap bytes_if_any is);
      one = behind.1;
    })

-- the number behind, where there is one
next_is : (number : ℕ) → number < 2 ^ 64 - 1 → (if ltb number (2 ^ 64 - 1) then Some (number + 1) else None) ≡ Some (number + 1)
next_is number below = ap (λ b. cond b (Some (number + 1)) None) (lt-ltb number (2 ^ 64 - 1) below)

-- of a frame that was handed in
of_answer :
    (k : KeyFields) (peer : ℕ) (w : Window) (f : FrameFields) (answer : Result Reply TakeFault) → w.asked ≡ w.due + 1 → f.from ≡ peer → f.number ≡ w.due
    → CameInOrder w (outcome_of_take answer) → IsSame k peer w (next_told (outcome_of_take answer) f.number) (want_to k f.from (next_of f.number answer))
of_answer k peer w f (Ok took) one sender due order =
    same_some k peer w (f.number + 1) _ _ one (omega arith) (omega arith) (next_is f.number (omega arith)) (ap (λ p. Some (frame_bytes (want_frame k p (f.number + 1)))) sender)
of_answer k peer w f (Err (fault.Repeat next)) one sender due order =
    same_some k peer w next _ _ one order.0 order.1 refl (ap (λ p. Some (frame_bytes (want_frame k p next))) sender)
of_answer k peer w f (Err (fault.Gap next)) one sender due order = absurd order
of_answer k peer w f (Err fault.WrongKey) one sender due order = same_none k peer w None None one refl refl
of_answer k peer w f (Err fault.Memory) one sender due order = same_none k peer w None None one refl refl

-- ---- both ways

-- a message is the frame
pub frame_is : OpenedIs → (k : KeyFields) (f : FrameFields) (o : OpenedFields) → incoming_at k f ≡ Ok (Message o) → o.frame ≡ f
unfolding incoming_at
frame_is law k f o is = at (judgement k f) refl is where
  same_message : (x : OpenedFields) → ◌≡◌ {A = Result Incoming LinkFault} (Ok (Message x)) (Ok (Message o)) → x ≡ o
  same_message x same = cc

  no_want : (from number : ℕ) → ◌≡◌ {A = Result Incoming LinkFault} (Ok (Want from number)) (Ok (Message o)) → ⊥
  no_want from number same = cc

  no_fault : (fault : LinkFault) → ◌≡◌ {A = Result Incoming LinkFault} (Err fault) (Ok (Message o)) → ⊥
  no_fault fault same = cc

  here : (x : OpenedFields) (asks : Bool) → judgement k f ≡ Ok x
      → ◌≡◌ {A = Result Incoming LinkFault} (Ok (cond asks (Want x.frame.from x.frame.number) (Message x))) (Ok (Message o)) → o.frame ≡ f
  here x true opens same = absurd (no_want x.frame.from x.frame.number same)
  here x false opens same =
      sym (ap (λ (y : OpenedFields). y.frame) (same_message x same)) ∙ ap (λ (y : OpenedFields). y.frame) ((law k f x).0 opens).1

  at : (j : Result OpenedFields LinkFault) → judgement k f ≡ j → incoming_of j ≡ Ok (Message o) → o.frame ≡ f
  at (Ok x) opens same = here x (is_want x.frame.body.kind) opens same
  at (Err fault) opens same = absurd (no_fault fault same)

same_ways :
    OpenedIs → (n : NodeFields) (peer : ℕ) (before : SeatFields) (after : SeatFields) (w : Window) (f : FrameFields) (r : Received) (i : Result Incoming LinkFault)
    → incoming_at n.keys f ≡ i → NoNext i → IsAnsweredAs n before after i r → w.asked ≡ w.due + 1 → f.from ≡ peer → f.number ≡ w.due
    → CameInOrder w r.outcome → IsSame n.keys peer w (next_told r.outcome f.number) (want_to n.keys f.from r.next)
unfolding NoNext
same_ways law n peer before after w f r (Ok (Message o)) at none is one sender due order =
    let frame : o.frame ≡ f = frame_is law n.keys f o at in
    let in_order : CameInOrder w (outcome_of_take is.answer) = subst (CameInOrder w) is.outcome order in
    let same = of_answer n.keys peer w f is.answer one sender due in_order in
    let want : want_to n.keys f.from r.next ≡ want_to n.keys f.from (next_of f.number is.answer) =
    ap (want_to n.keys f.from) (is.next ∙ ap (λ (x : FrameFields). next_of x.number is.answer) frame) in
    subst (λ o. IsSame n.keys peer w (next_told o f.number) (want_to n.keys f.from r.next)) (sym is.outcome)
    (subst (λ x. IsSame n.keys peer w (next_told (outcome_of_take is.answer) f.number) x) (sym want) same)
same_ways law n peer before after w f r (Ok (Want from number)) at none is one sender due order =
    same_none n.keys peer w (next_told r.outcome f.number) (want_to n.keys f.from r.next) one
    (ap (λ (x : Received). next_told x.outcome f.number) is.0) (ap (λ (x : Received). want_to n.keys f.from x.next) is.0)
same_ways law n peer before after w f r (Err fault) at none is one sender due order =
    same_none n.keys peer w (next_told r.outcome f.number) (want_to n.keys f.from r.next) one
    (ap (λ (x : Received). next_told x.outcome f.number) is.0 ∙ none f.number) (ap (λ (x : Received). want_to n.keys f.from x.next) is.0)

pub by_one : OpenedIs → AheadByOne
unfolding early incoming_at
by_one law n peer before after f text one fed order =
    let same = same_ways law n peer before.seat fed.seat before.window f fed.received (incoming_of (judgement n.keys f)) refl (tells_none n.keys f) fed.is one fed.due.sender fed.due.number order in (
      record { received = fed.received; is = fed.is; want = fed.asks ∙ same.text },
      subst (λ (w : Window). w.asked ≡ w.due + 1) (sym fed.window) same.one,
    )
