-- What a frame that was read already is to a member.
use Rattle.std.proofs.Common.{◌≡◌, ◌≢◌, ◌++◌, ℕ, List, Bool, true, false, cond, Option, Some, None, Result, Ok, Err, refl, sym, ap, ◌∙◌, append-nil}
use Rattle.std.specs.Prelude.{IfOk, OnErr}
use Rattle.std.specs.Option.{option_and_then, option_map, option_to_list}
use Rattle.pay_frame.specs.Frame.{FrameFields, frame_bytes}
use Rattle.pay_channel.specs.History as channel
use Rattle.pay_channel.specs.Taken.{next}
use Rattle.pay_link.specs.Genesis.{GenesisFields}
use Rattle.pay_link.specs.Keys.{KeyFields}
use Rattle.pay_link.specs.Checked.{checked_fields}
use Rattle.pay_link.specs.Opening.{OpenedFields, judgement}
use Rattle.pay_link.specs.Sealing.{want_frame}
use Rattle.pay_link.specs.declared.opened.LinkFault.{LinkFault}
use Rattle.pay_member.specs.declared.bringing.Incoming.TheVariants.{Want, Message}
use Rattle.pay_member.specs.declared.bringing.Outcome.{Outcome}
use Rattle.pay_member.specs.Events.{events}
use Rattle.pay_member.specs.Member.{MemberFields}
use Rattle.pay_member.specs.Bringing.{is_want, incoming_of, incoming_at, unless_want, opened_in, outcome_to, answer_to, event_in, event_of_frame, want_for, want_after, checked_with, with_taken, with_brought}
use Rattle.pay_member.specs.Serving.{after_frame, want_of}
use Rattle.pay_member.proofs.Openings.{Opened, OpenedIs, message_in, message_same}
use Rattle.pay_member.proofs.Bringings.{event_found, events_taken, keys_kept, want_found}

-- ---- the answer of a call that may be refused memory

pub if_ok : {A E : Type 0} {P Q : A → Type 0} (r : Result A E) → ((x : A) → P x → Q x) → IfOk r P → IfOk r Q
if_ok (Ok x) f p = f x p
if_ok (Err e) f p = tt

pub if_ok_both : {A E : Type 0} {P Q R : A → Type 0} (r : Result A E) → ((x : A) → P x → Q x → R x) → IfOk r P → IfOk r Q → IfOk r R
if_ok_both (Ok x) f p q = f x p q
if_ok_both (Err e) f p q = tt

pub if_ok_all : {A E : Type 0} {P Q R T : A → Type 0} (r : Result A E) → ((x : A) → P x → Q x → R x → T x) → IfOk r P → IfOk r Q → IfOk r R → IfOk r T
if_ok_all (Ok x) f p q t = f x p q t
if_ok_all (Err e) f p q t = tt

pub on_err : {A E : Type 0} {P : Type 0} (r : Result A E) → P → OnErr r P
on_err (Ok x) p = tt
on_err (Err e) p = p

-- ---- a message

pub answered_opened :
    (g : GenesisFields) (own : ℕ) (before : List channel.Event) (k : KeyFields) (f : FrameFields) (o : OpenedFields) (outcome : Outcome)
    → Ok (Message o) ≡ incoming_at k f → outcome ≡ answer_to g own before o.frame → outcome ≡ outcome_to g own before (incoming_at k f)
answered_opened g own before k f o outcome comes is = is ∙ ap (outcome_to g own before) comes

pub next_opened :
    (k : KeyFields) (f : FrameFields) (o : OpenedFields) (after : List channel.Event) → Opened k f o
    → Some (next o.frame.from after) ≡ option_map (λ (x : FrameFields). next x.from after) (unless_want (judgement k f))
next_opened k f o after has = sym (ap (option_map (λ (x : FrameFields). next x.from after)) (message_in k f o has))

pub after_opened :
    OpenedIs → (stamp : ℕ) (m : MemberFields) (f : FrameFields) (o : OpenedFields) (outcome : Outcome) → Opened m.keys f o
    → outcome ≡ outcome_to m.genesis m.keys.own (events m.history) (incoming_at m.keys f)
    → with_taken m stamp (checked_fields o) outcome ≡ after_frame stamp m f
unfolding after_frame
after_opened law stamp m f o outcome has is =
    let made = ((law m.keys f o).0 has.opens).1 in
    let checked = ap checked_fields made ∙ sym (ap (λ (x : OpenedFields). checked_with m.keys x.frame) made) in
    (λ i. with_taken m stamp (checked i) (is i))
    ∙ sym (ap (with_brought m stamp (outcome_to m.genesis m.keys.own (events m.history) (incoming_at m.keys f))) (message_in m.keys f o has))

pub memory_opened :
    (before : List channel.Event) (k : KeyFields) (f : FrameFields) (o : OpenedFields) → Opened k f o → event_of_frame before o.frame ≢ None
    → option_and_then (event_of_frame before) (unless_want (judgement k f)) ≢ None
memory_opened before k f o has is = λ none. is (sym (ap (option_and_then (event_of_frame before)) (message_in k f o has)) ∙ none)

-- ---- none

pub after_none : (stamp : ℕ) (m : MemberFields) (f : FrameFields) → unless_want (judgement m.keys f) ≡ None → m ≡ after_frame stamp m f
unfolding after_frame
after_none stamp m f none = sym (ap (with_brought m stamp (outcome_to m.genesis m.keys.own (events m.history) (incoming_at m.keys f))) none)

-- ---- the member behind a frame

taken_keys : (m : MemberFields) (stamp : ℕ) (outcome : Outcome) (found : Option FrameFields) → (with_brought m stamp outcome found).keys ≡ m.keys
taken_keys m stamp outcome None = refl
taken_keys m stamp outcome (Some x) = keys_kept m stamp (checked_with m.keys x) outcome

pub keys_after : (stamp : ℕ) (m : MemberFields) (f : FrameFields) → (after_frame stamp m f).keys ≡ m.keys
unfolding after_frame
keys_after stamp m f = taken_keys m stamp (outcome_to m.genesis m.keys.own (events m.history) (incoming_at m.keys f)) (unless_want (judgement m.keys f))

pub events_after :
    (stamp : ℕ) (m : MemberFields) (f : FrameFields)
    → events (after_frame stamp m f).history ≡ events m.history ++ option_to_list (option_and_then (event_of_frame (events m.history)) (unless_want (judgement m.keys f)))
unfolding after_frame incoming_at
events_after stamp m f = at (judgement m.keys f) where
  of_frame : (o : OpenedFields) (asks : Bool)
      → events (with_brought m stamp (outcome_to m.genesis m.keys.own (events m.history) (Ok (cond asks (Want o.frame.from o.frame.number) (Message o)))) (cond asks None (Some o.frame))).history
      ≡ events m.history ++ option_to_list (option_and_then (event_of_frame (events m.history)) (cond asks None (Some o.frame)))
  of_frame o true = sym (append-nil (events m.history))
  of_frame o false = events_taken m stamp (checked_with m.keys o.frame)

  at : (j : Result OpenedFields LinkFault)
      → events (with_brought m stamp (outcome_to m.genesis m.keys.own (events m.history) (incoming_of j)) (unless_want j)).history
      ≡ events m.history ++ option_to_list (option_and_then (event_of_frame (events m.history)) (unless_want j))
  at (Err fault) = sym (append-nil (events m.history))
  at (Ok o) = of_frame o (is_want o.frame.body.kind)

-- ---- the WANT that goes with it

pub want_some :
    OpenedIs → (k : KeyFields) (f : FrameFields) (after : List channel.Event) (number : ℕ)
    → Some number ≡ option_map (λ (x : FrameFields). next x.from after) (unless_want (judgement k f))
    → Some (frame_bytes (want_frame k f.from number)) ≡ option_map (want_for k after) (unless_want (judgement k f))
want_some law k f after number is = at (unless_want (judgement k f)) refl is where
  At : Option FrameFields → Type 0
  At found = Some number ≡ option_map (λ (x : FrameFields). next x.from after) found → Some (frame_bytes (want_frame k f.from number)) ≡ option_map (want_for k after) found

  some_is : (x y : ℕ) → Some x ≡ Some y → x ≡ y
  some_is x y same = cc

  some_none : Some number ≡ None → ⊥
  some_none same = cc

  at : (found : Option FrameFields) → unless_want (judgement k f) ≡ found → At found
  at None none = λ same. absurd (some_none same)
  at (Some x) some = λ same.
      let from : f.from ≡ x.from = sym (ap (λ (y : FrameFields). y.from) (message_same law k f x some)) in
      (λ i. Some (frame_bytes (want_frame k (from i) (some_is number (next x.from after) same i))))

pub none_wanted : (stamp : ℕ) (m : MemberFields) (f : FrameFields) → unless_want (judgement m.keys f) ≡ None → None ≡ want_of stamp m f
unfolding want_of
none_wanted stamp m f none = sym (ap (option_map (want_for m.keys (events (after_frame stamp m f).history))) none)

-- the same of the member behind it
pub want_is :
    (stamp : ℕ) (m after : MemberFields) (f : FrameFields) (want : Option (List ℕ)) → after ≡ after_frame stamp m f
    → want ≡ option_map (want_for m.keys (events after.history)) (unless_want (judgement m.keys f)) → want ≡ want_of stamp m f
unfolding want_of
want_is stamp m after f want is same = same ∙ ap (λ (x : MemberFields). option_map (want_for m.keys (events x.history)) (unless_want (judgement m.keys f))) is

-- and of the bytes that are the frame
pub want_of_bytes :
    (stamp : ℕ) (m after : MemberFields) (f : FrameFields) (bytes : List ℕ) → after ≡ after_frame stamp m f → opened_in m.keys bytes ≡ unless_want (judgement m.keys f)
    → want_of stamp m f ≡ want_after m.keys (events after.history) bytes
unfolding want_of want_after
want_of_bytes stamp m after f bytes is found = λ i. option_map (want_for m.keys (events (sym is i).history)) (sym found i)

-- ---- the same of the bytes that are the frame

pub entry_of_bytes :
    (stamp : ℕ) (m after : MemberFields) (f : FrameFields) (bytes : List ℕ) (outcome : Outcome) → after ≡ after_frame stamp m f
    → outcome ≡ outcome_to m.genesis m.keys.own (events m.history) (incoming_at m.keys f) → opened_in m.keys bytes ≡ unless_want (judgement m.keys f)
    → after ≡ with_brought m stamp outcome (opened_in m.keys bytes)
unfolding after_frame
entry_of_bytes stamp m after f bytes outcome is told found = is ∙ (λ i. with_brought m stamp (sym told i) (sym found i))

pub events_of_bytes :
    (stamp : ℕ) (m after : MemberFields) (f : FrameFields) (bytes : List ℕ) → after ≡ after_frame stamp m f → opened_in m.keys bytes ≡ unless_want (judgement m.keys f)
    → events after.history ≡ events m.history ++ option_to_list (event_in m.keys (events m.history) bytes)
events_of_bytes stamp m after f bytes is found =
    ap (λ (x : MemberFields). events x.history) is ∙ events_after stamp m f
    ∙ ap (λ (e : Option channel.Event). events m.history ++ option_to_list e) (event_found m.keys (events m.history) bytes (unless_want (judgement m.keys f)) found)

pub memory_of_bytes :
    (k : KeyFields) (before : List channel.Event) (f : FrameFields) (bytes : List ℕ) → opened_in k bytes ≡ unless_want (judgement k f)
    → option_and_then (event_of_frame before) (unless_want (judgement k f)) ≢ None → event_in k before bytes ≢ None
memory_of_bytes k before f bytes found some = λ none. some (event_found k before bytes (unless_want (judgement k f)) found ∙ none)

-- ---- bytes that are no frame

pub want_of_none : (k : KeyFields) (after : List channel.Event) (bytes : List ℕ) → opened_in k bytes ≡ None → None ≡ want_after k after bytes
want_of_none k after bytes none = want_found k after bytes None none

pub events_of_none :
    (k : KeyFields) (before : List channel.Event) (bytes : List ℕ) → opened_in k bytes ≡ None → before ≡ before ++ option_to_list (event_in k before bytes)
events_of_none k before bytes none =
    sym (append-nil before) ∙ ap (λ (e : Option channel.Event). before ++ option_to_list e) (event_found k before bytes None none)

pub entry_of_none : (stamp : ℕ) (m : MemberFields) (bytes : List ℕ) (outcome : Outcome) → opened_in m.keys bytes ≡ None → m ≡ with_brought m stamp outcome (opened_in m.keys bytes)
entry_of_none stamp m bytes outcome none = sym (ap (with_brought m stamp outcome) none)
