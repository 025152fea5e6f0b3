-- What bytes are, before a member's history is looked at.
use Rattle.std.proofs.Common.{◌≡◌, ◌≢◌, ◌⊎◌, ◌↔◌, inl, inr, ℕ, Bool, true, false, cond, List, Option, Some, None, Result, Ok, Err, refl, sym, ap, ◌∙◌, subst}
use Rattle.std.specs.Option.{option_and_then}
use Rattle.pay_frame.specs.declared.reading.FrameFault.{FrameFault}
use Rattle.pay_frame.specs.declared.body.Kind.{Kind}
use Rattle.pay_frame.specs.declared.body.Kind.TheVariants as kind
use Rattle.pay_frame.specs.Frame.{FrameFields, IsFrame}
use Rattle.pay_frame.specs.OneFrame.{IsOneFrame, IsOneReading, one_frame}
use Rattle.pay_link.specs.Keys.{KeyFields, IsPeer}
use Rattle.pay_link.specs.Checked.{CheckedFields, IsChecked, IsFor, bytes_of, checked_fields}
use Rattle.pay_link.specs.Opening.{OpenedFields, Opens, judgement, opened_fields}
use Rattle.pay_link.specs.declared.opened.LinkFault.{LinkFault}
use Rattle.pay_member.specs.declared.bringing.Incoming.{Incoming}
use Rattle.pay_member.specs.declared.bringing.Incoming.TheVariants.{Want, Message}
use Rattle.pay_member.specs.Bringing.{is_want, incoming, incoming_of, incoming_at, unless_want, opened_in, checked_with}
use Rattle.pay_member.specs.OpeningLaws.{OpensFrom}

pub frame_refused : (k : KeyFields) (f : FrameFields) (fault : LinkFault) → Err fault ≡ judgement k f → Err fault ≡ incoming_at k f
unfolding incoming_at
frame_refused k f fault is = ap incoming_of is

pub frame_wanted :
    (k : KeyFields) (f : FrameFields) (o : OpenedFields) (of : Kind) (from number : ℕ)
    → Ok o ≡ judgement k f → of ≡ o.frame.body.kind → of ≡ kind.Want → from ≡ o.frame.from → number ≡ o.frame.number → Ok (Want from number) ≡ incoming_at k f
unfolding incoming_at
frame_wanted k f o of from number is kind want sender place =
    let asks : is_want o.frame.body.kind ≡ true = ap is_want (sym kind ∙ want) in
    let here : incoming o ≡ Want o.frame.from o.frame.number = (rw asks refl) in
    (λ i. Ok (Want (sender i) (place i))) ∙ sym (ap Ok here) ∙ ap incoming_of is

pub frame_opened : (k : KeyFields) (f : FrameFields) (o : OpenedFields) → Ok o ≡ judgement k f → is_want o.frame.body.kind ≡ false → Ok (Message o) ≡ incoming_at k f
unfolding incoming_at
frame_opened k f o is other =
    let here : incoming o ≡ Message o = (rw other refl) in
    sym (ap Ok here) ∙ ap incoming_of is

pub no_want : (of : Kind) → (of ≡ kind.Send) ⊎ ((of ≡ kind.Echo) ⊎ (of ≡ kind.Ready)) → is_want of ≡ false
no_want of (inl is) = ap is_want is
no_want of (inr (inl is)) = ap is_want is
no_want of (inr (inr is)) = ap is_want is

none_is : {X : Type 0} (x : X) → None ≡ Some x → ⊥
none_is x same = cc

some_is : {X : Type 0} (x y : X) → Some x ≡ Some y → x ≡ y
some_is x y same = cc

pub wants_not : (of : Kind) → is_want of ≡ false → of ≢ kind.Want
wants_not kind.Send other same = cc
wants_not kind.Echo other same = cc
wants_not kind.Ready other same = cc
wants_not kind.Want other same = cc

-- ---- which frame opened, if any

abbrev pub FrameIs : Type 0
FrameIs = (bytes : List ℕ) (f : FrameFields) → (one_frame bytes ≡ Some f) ↔ IsOneFrame bytes f

abbrev pub NoFrame : Type 0
NoFrame = (bytes : List ℕ) (fault : FrameFault) → IsOneReading bytes (Err fault) → one_frame bytes ≡ None

abbrev pub OpenedIs : Type 0
OpenedIs = (k : KeyFields) (f : FrameFields) (o : OpenedFields) → (judgement k f ≡ Ok o) ↔ (Opens k f × (o ≡ opened_fields k f))

abbrev pub OwnedIsFor : Type 0
OwnedIsFor =
    (k : KeyFields) (f : FrameFields) (o : OpenedFields) → IsFrame f → f.body.kind ≢ kind.Want → judgement k f ≡ Ok o
    → IsChecked (checked_fields o) × IsFor k (checked_fields o)

-- what opened is the frame, whose sender is a peer
pub opened_frame : OpenedIs → (k : KeyFields) (f : FrameFields) (o : OpenedFields) → Ok o ≡ judgement k f → o.frame ≡ f
opened_frame law k f o is = ap (λ (x : OpenedFields). x.frame) ((law k f o).0 (sym is)).1

pub opened_from_peer : OpenedIs → (k : KeyFields) (f : FrameFields) (o : OpenedFields) → Ok o ≡ judgement k f → IsPeer k f.from
opened_from_peer law k f o is = ((law k f o).0 (sym is)).0.sender

-- a frame that opens and is no WANT
pub record Opened (k : KeyFields) (f : FrameFields) (o : OpenedFields) : Type 0 where
  pub opens : judgement k f ≡ Ok o
  pub other : is_want o.frame.body.kind ≡ false

message_is : (x y : OpenedFields) → ◌≡◌ {A = Result Incoming LinkFault} (Ok (Message x)) (Ok (Message y)) → x ≡ y
message_is x y same = cc

message_no_want : (x : OpenedFields) (from number : ℕ) → ◌≡◌ {A = Result Incoming LinkFault} (Ok (Message x)) (Ok (Want from number)) → ⊥
message_no_want x from number same = cc

message_no_fault : (x : OpenedFields) (fault : LinkFault) → ◌≡◌ {A = Result Incoming LinkFault} (Ok (Message x)) (Err fault) → ⊥
message_no_fault x fault same = cc

pub opened : (k : KeyFields) (f : FrameFields) (o : OpenedFields) → Ok (Message o) ≡ incoming_at k f → Opened k f o
unfolding incoming_at
opened k f o is = at (judgement k f) refl is where
  here : (p : OpenedFields) (asks : Bool) → judgement k f ≡ Ok p → is_want p.frame.body.kind ≡ asks
      → ◌≡◌ {A = Result Incoming LinkFault} (Ok (Message o)) (Ok (cond asks (Want p.frame.from p.frame.number) (Message p))) → Opened k f o
  here p true opens asks same = absurd (message_no_want o p.frame.from p.frame.number same)
  here p false opens asks same =
      let is = message_is o p same in
      record { opens = opens ∙ ap Ok (sym is); other = ap (λ (x : OpenedFields). is_want x.frame.body.kind) is ∙ asks }

  at : (j : Result OpenedFields LinkFault) → judgement k f ≡ j → Ok (Message o) ≡ incoming_of j → Opened k f o
  at (Err fault) opens same = absurd (message_no_fault o fault same)
  at (Ok p) opens same = here p (is_want p.frame.body.kind) opens refl same

pub message_in : (k : KeyFields) (f : FrameFields) (o : OpenedFields) → Opened k f o → unless_want (judgement k f) ≡ Some o.frame
message_in k f o has =
    let none : unless_want (Ok o) ≡ Some o.frame = (rw has.other refl) in
    ap unless_want has.opens ∙ none

-- a WANT, and a frame that doesn't open, has no message
IsNone : Result Incoming LinkFault → Option FrameFields → Type 0
IsNone (Ok (Want from number)) found = found ≡ None
IsNone (Ok (Message o)) found = Unit {0}
IsNone (Err fault) found = found ≡ None

none_of : (j : Result OpenedFields LinkFault) → IsNone (incoming_of j) (unless_want j)
unfolding IsNone
none_of (Err fault) = refl
none_of (Ok o) = at (is_want o.frame.body.kind) where
  at : (asks : Bool) → IsNone (Ok (cond asks (Want o.frame.from o.frame.number) (Message o))) (cond asks None (Some o.frame))
  at true = refl
  at false = tt

none_at : (k : KeyFields) (f : FrameFields) → IsNone (incoming_at k f) (unless_want (judgement k f))
unfolding incoming_at
none_at k f = none_of (judgement k f)

pub want_in : (k : KeyFields) (f : FrameFields) (from number : ℕ) → Ok (Want from number) ≡ incoming_at k f → unless_want (judgement k f) ≡ None
unfolding IsNone
want_in k f from number is = subst (λ i. IsNone i (unless_want (judgement k f))) (sym is) (none_at k f)

pub fault_in : (k : KeyFields) (f : FrameFields) (fault : LinkFault) → Err fault ≡ incoming_at k f → unless_want (judgement k f) ≡ None
unfolding IsNone
fault_in k f fault is = subst (λ i. IsNone i (unless_want (judgement k f))) (sym is) (none_at k f)

-- a message is the frame itself
pub message_same : OpenedIs → (k : KeyFields) (f x : FrameFields) → unless_want (judgement k f) ≡ Some x → x ≡ f
message_same law k f x is = at (judgement k f) refl is where
  some_none : (y : FrameFields) → ◌≡◌ {A = Option FrameFields} None (Some y) → ⊥
  some_none y same = cc

  here : (o : OpenedFields) (asks : Bool) → Ok o ≡ judgement k f → cond asks None (Some o.frame) ≡ Some x → x ≡ f
  here o true opens same = absurd (some_none x same)
  here o false opens same = sym (some_is o.frame x same) ∙ opened_frame law k f o opens

  at : (j : Result OpenedFields LinkFault) → judgement k f ≡ j → unless_want j ≡ Some x → x ≡ f
  at (Err fault) opens same = absurd (some_none x same)
  at (Ok o) opens same = here o (is_want o.frame.body.kind) (sym opens) same

pub is_for : OpenedIs → OwnedIsFor → (k : KeyFields) (f : FrameFields) (o : OpenedFields) → IsFrame f → f.body.kind ≢ kind.Want → Opened k f o → IsFor k (checked_fields o)
is_for law owned k f o frame other has = (owned k f o frame other has.opens).1

-- ---- what bytes are

-- the one frame that they are, where it is a message
pub frame_in : FrameIs → (k : KeyFields) (bytes : List ℕ) (f : FrameFields) → IsOneFrame bytes f → opened_in k bytes ≡ unless_want (judgement k f)
unfolding opened_in
frame_in frame k bytes f one = ap (option_and_then (λ x. unless_want (judgement k x))) ((frame bytes f).1 one)

-- or nothing
pub no_frame_in : NoFrame → (k : KeyFields) (bytes : List ℕ) (fault : FrameFault) → IsOneReading bytes (Err fault) → opened_in k bytes ≡ None
unfolding opened_in
no_frame_in none k bytes fault reads = ap (option_and_then (λ f. unless_want (judgement k f))) (none bytes fault reads)

-- what opens is the bytes, opens by the definition, and is no WANT
pub opened_are :
    FrameIs → OpenedIs → (k : KeyFields) (bytes : List ℕ) (f : FrameFields) → opened_in k bytes ≡ Some f
    → OpensFrom k bytes f
unfolding opened_in
opened_are frame opened k bytes f is = at (one_frame bytes) refl is where
  here : (x : FrameFields) (p : OpenedFields) (asks : Bool) → IsOneFrame bytes x → judgement k x ≡ Ok p → is_want p.frame.body.kind ≡ asks → cond asks None (Some p.frame) ≡ Some f → OpensFrom k bytes f
  here x p true one opens asks same = absurd (none_is f same)
  here x p false one opens asks same =
      let known = (opened k x p).0 opens in
      let fields : p.frame ≡ x = ap (λ (o : OpenedFields). o.frame) known.1 in
      let are : x ≡ f = sym fields ∙ some_is p.frame f same in
      record {
        one = subst (IsOneFrame bytes) are one;
        opens = subst (Opens k) are known.0;
        other = wants_not f.body.kind (sym (ap (λ (y : FrameFields). is_want y.body.kind) (some_is p.frame f same)) ∙ asks);
      }

  judged_as : (x : FrameFields) (j : Result OpenedFields LinkFault) → IsOneFrame bytes x → judgement k x ≡ j → unless_want j ≡ Some f → OpensFrom k bytes f
  judged_as x (Err fault) one opens same = absurd (none_is f same)
  judged_as x (Ok p) one opens same = here x p (is_want p.frame.body.kind) one opens refl same

  at : (o : Option FrameFields) → one_frame bytes ≡ o → option_and_then (λ x. unless_want (judgement k x)) o ≡ Some f → OpensFrom k bytes f
  at None reads same = absurd (none_is f same)
  at (Some x) reads same = judged_as x (judgement k x) ((frame bytes x).0 reads) refl same

-- ---- the bytes of a frame that is for the member

abbrev pub OpensAgain : Type 0
OpensAgain =
    (k : KeyFields) (c : CheckedFields) → IsChecked c → IsFor k c
    → (judgement k c.frame ≡ Ok (opened_fields k c.frame)) × (checked_fields (opened_fields k c.frame) ≡ c)

abbrev pub OneFrameOf : Type 0
OneFrameOf = (c : CheckedFields) → IsChecked c → IsOneFrame (bytes_of c) c.frame

wants_none : (of : Kind) → of ≢ kind.Want → is_want of ≡ false
wants_none kind.Send other = refl
wants_none kind.Echo other = refl
wants_none kind.Ready other = refl
wants_none kind.Want other = absurd (other refl)

-- they open, and what opens is the frame
pub record IsOwned (k : KeyFields) (c : CheckedFields) : Type 0 where
  pub one : IsOneFrame (bytes_of c) c.frame
  pub comes : incoming_at k c.frame ≡ Ok (Message (opened_fields k c.frame))
  pub opened : opened_in k (bytes_of c) ≡ Some c.frame
  pub same : c ≡ checked_with k c.frame

pub is_owned : FrameIs → OpensAgain → OneFrameOf → (k : KeyFields) (c : CheckedFields) → IsChecked c → IsFor k c → IsOwned k c
is_owned frame again one_frame k c is_checked is_for =
    let one = one_frame c is_checked in
    let opens = again k c is_checked is_for in
    let other = wants_none c.frame.body.kind is_checked.kind in
    let has : Opened k c.frame (opened_fields k c.frame) = record { opens = opens.0; other = other } in
    record {
      one = one;
      comes = sym (frame_opened k c.frame (opened_fields k c.frame) (sym opens.0) other);
      opened = frame_in frame k (bytes_of c) c.frame one ∙ message_in k c.frame (opened_fields k c.frame) has;
      same = sym opens.1;
    }
