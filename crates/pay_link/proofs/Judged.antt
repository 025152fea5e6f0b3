-- What each cause of refusal makes of a frame, and what opens it.
use Rattle.std.proofs.Common.{◌≡◌, ◌≢◌, ℕ, ◌<◌, ◌≤◌, ◌==◌, nat_lt, not, true, false, List, length, Result, Ok, Err, refl, sym, arith, rules, Bool, IsTrue, ◌↔◌, ap, ◌∙◌, if◌then◌else◌}
use Rattle.std.specs.Str.{bytes_eq}
use Rattle.std.specs.Bool.{Decides}
use Rattle.std.proofs.lemmas.Bool.Decides.{Decides-and, Decides-eqb, Decides-ltb, Decides-not, not_from_Decides, same_from_decides}
use Rattle.std.proofs.lemmas.Bool.{false_from_ne_true}
use Rattle.std.proofs.lemmas.Slice.Eq.{bytes_eq-Decides}
use Rattle.pay_frame.specs.Frame.{BodyFields, FrameFields}
use Rattle.pay_link.specs.Keys.{IsPeer, KeyFields, is_peer, key_for}
use Rattle.pay_link.specs.Opening.{IsTagged, OpenedFields, Opens, judgement, opened_fields, right_tag}
use Rattle.pay_hmac.specs.Mac.{mac}
use Rattle.pay_link.specs.Sealing.{sealed_frame, tagged_bytes}
use Rattle.pay_link.specs.declared.opened.LinkFault.{LinkFault}
use Rattle.pay_link.specs.declared.opened.LinkFault.TheVariants.{BadTag, Gap, NotForMe, Repeat, UnknownOwner, UnknownSender}

pub is_peer-Decides : (k : KeyFields) (p : ℕ) → Decides (is_peer k p) (IsPeer k p)
is_peer-Decides k p =
    Decides-and _ _ (Decides-ltb p (length k.keys)) (Decides-not _ (Decides-eqb p k.own))

-- what the code's test of a peer says
pub is_peer_read : (k : KeyFields) (p : ℕ) (r : Bool) → (IsTrue r ↔ IsPeer k p) → r ≡ is_peer k p
is_peer_read k p r h = same_from_decides r (is_peer k p) h (is_peer-Decides k p)

not_not : (b : Bool) → not (not b) ≡ b
not_not true = refl
not_not false = refl

-- what the code's comparison of two lists of bytes says
pub bytes_eq_read : (xs ys zs : List ℕ) (r : Bool) → r ≡ not (bytes_eq xs ys) → ys ≡ zs → bytes_eq xs zs ≡ not r
bytes_eq_read xs ys zs r h same = rw (sym same, h, not_not (bytes_eq xs ys)) refl

pub judgement-not_for_me : (k : KeyFields) (f : FrameFields) → f.to ≢ k.own → judgement k f ≡ Err NotForMe
unfolding judgement
judgement-not_for_me k f h =
    let test : (f.to == k.own) ≡ false = search rules in
    rw test refl

pub judgement-unknown_sender : (k : KeyFields) (f : FrameFields) → f.to ≡ k.own → is_peer k f.from ≡ false →
    judgement k f ≡ Err UnknownSender
unfolding judgement
judgement-unknown_sender k f me h =
    let test : (f.to == k.own) ≡ true = search rules in
    rw (test, h) refl

pub judgement-unknown_owner : (k : KeyFields) (f : FrameFields) → f.to ≡ k.own → is_peer k f.from ≡ true →
    length k.keys ≤ f.body.owner → judgement k f ≡ Err UnknownOwner
unfolding judgement
judgement-unknown_owner k f me peer h =
    let test : (f.to == k.own) ≡ true = search rules in
    let owner : nat_lt f.body.owner (length k.keys) ≡ false = search rules in
    rw (test, peer, owner) refl

pub judgement-bad_tag : (k : KeyFields) (f : FrameFields) → f.to ≡ k.own → is_peer k f.from ≡ true →
    f.body.owner < length k.keys → bytes_eq f.tag (right_tag (key_for k f.from) f) ≡ false →
    judgement k f ≡ Err BadTag
unfolding judgement
judgement-bad_tag k f me peer known tag =
    let test : (f.to == k.own) ≡ true = search rules in
    let owner : nat_lt f.body.owner (length k.keys) ≡ true = search rules in
    rw (test, peer, owner, tag) refl

pub judgement-opened : (k : KeyFields) (f : FrameFields) → f.to ≡ k.own → is_peer k f.from ≡ true →
    f.body.owner < length k.keys → bytes_eq f.tag (right_tag (key_for k f.from) f) ≡ true →
    judgement k f ≡ Ok (opened_fields k f)
unfolding judgement
judgement-opened k f me peer known tag =
    let test : (f.to == k.own) ≡ true = search rules in
    let owner : nat_lt f.body.owner (length k.keys) ≡ true = search rules in
    rw (test, peer, owner, tag) refl

pub ruleset judged = (is_peer_read, judgement-not_for_me, judgement-unknown_sender, judgement-unknown_owner, judgement-bad_tag, judgement-opened)

-- the four tests in their order
abbrev decided : Bool → Bool → Bool → Bool → OpenedFields → Result OpenedFields LinkFault
decided me peer owner tag o =
    if me then (if peer then (if owner then (if tag then Ok o else Err BadTag) else Err UnknownOwner) else Err UnknownSender)
    else Err NotForMe

-- what each answer says of the tests
from_not_for_me : (me peer owner tag : Bool) (o : OpenedFields) → decided me peer owner tag o ≡ Err NotForMe → me ≡ false
from_not_for_me false peer owner tag o h = refl
from_not_for_me true false owner tag o h = cc
from_not_for_me true true false tag o h = cc
from_not_for_me true true true false o h = cc
from_not_for_me true true true true o h = cc

from_unknown_sender : (me peer owner tag : Bool) (o : OpenedFields) → decided me peer owner tag o ≡ Err UnknownSender →
    (me ≡ true) × (peer ≡ false)
from_unknown_sender false peer owner tag o h = absurd cc
from_unknown_sender true false owner tag o h = (refl, refl)
from_unknown_sender true true false tag o h = absurd cc
from_unknown_sender true true true false o h = absurd cc
from_unknown_sender true true true true o h = absurd cc

from_unknown_owner : (me peer owner tag : Bool) (o : OpenedFields) → decided me peer owner tag o ≡ Err UnknownOwner →
    (me ≡ true) × (peer ≡ true) × (owner ≡ false)
from_unknown_owner false peer owner tag o h = absurd cc
from_unknown_owner true false owner tag o h = absurd cc
from_unknown_owner true true false tag o h = (refl, refl, refl)
from_unknown_owner true true true false o h = absurd cc
from_unknown_owner true true true true o h = absurd cc

from_bad_tag : (me peer owner tag : Bool) (o : OpenedFields) → decided me peer owner tag o ≡ Err BadTag →
    (me ≡ true) × (peer ≡ true) × (owner ≡ true) × (tag ≡ false)
from_bad_tag false peer owner tag o h = absurd cc
from_bad_tag true false owner tag o h = absurd cc
from_bad_tag true true false tag o h = absurd cc
from_bad_tag true true true false o h = (refl, refl, refl, refl)
from_bad_tag true true true true o h = absurd cc

from_opened : (me peer owner tag : Bool) (o p : OpenedFields) → decided me peer owner tag o ≡ Ok p →
    (me ≡ true) × (peer ≡ true) × (owner ≡ true) × (tag ≡ true) × (p ≡ o)
from_opened false peer owner tag o p h = absurd cc
from_opened true false owner tag o p h = absurd cc
from_opened true true false tag o p h = absurd cc
from_opened true true true false o p h = absurd cc
from_opened true true true true o p h = (refl, refl, refl, refl, cc)

from_repeat : (me peer owner tag : Bool) (o : OpenedFields) (next : ℕ) →
    decided me peer owner tag o ≡ Err (Repeat next) → ⊥
from_repeat false peer owner tag o next h = cc
from_repeat true false owner tag o next h = cc
from_repeat true true false tag o next h = cc
from_repeat true true true false o next h = cc
from_repeat true true true true o next h = cc

from_gap : (me peer owner tag : Bool) (o : OpenedFields) (next : ℕ) → decided me peer owner tag o ≡ Err (Gap next) → ⊥
from_gap false peer owner tag o next h = cc
from_gap true false owner tag o next h = cc
from_gap true true false tag o next h = cc
from_gap true true true false o next h = cc
from_gap true true true true o next h = cc

pub not_for_me_law : (k : KeyFields) (f : FrameFields) → (judgement k f ≡ Err NotForMe) ↔ (f.to ≢ k.own)
unfolding judgement
not_for_me_law k f = (
  λ h. not_from_Decides _ (Decides-eqb f.to k.own) (from_not_for_me _ (is_peer k f.from)
      (nat_lt f.body.owner (length k.keys)) (bytes_eq f.tag (right_tag (key_for k f.from) f)) (opened_fields k f) h),
  judgement-not_for_me k f,
)

pub unknown_sender_law : (k : KeyFields) (f : FrameFields) →
    (judgement k f ≡ Err UnknownSender) ↔ ((f.to ≡ k.own) × ¬ (IsPeer k f.from))
unfolding judgement
unknown_sender_law k f = (
  λ h. let tests = from_unknown_sender _ _ _ _ _ h in
      ((Decides-eqb f.to k.own).0 tests.0, not_from_Decides _ (is_peer-Decides k f.from) tests.1),
  λ h. judgement-unknown_sender k f h.0 (false_from_ne_true _ (λ t. h.1 ((is_peer-Decides k f.from).0 t))),
)

pub unknown_owner_law : (k : KeyFields) (f : FrameFields) →
    (judgement k f ≡ Err UnknownOwner) ↔ ((f.to ≡ k.own) × IsPeer k f.from × (length k.keys ≤ f.body.owner))
unfolding judgement
unknown_owner_law k f = (
  λ h. let tests = from_unknown_owner _ _ _ _ _ h in
      let far : ¬ (f.body.owner < length k.keys) = not_from_Decides _ (Decides-ltb _ _) tests.2 in
      ((Decides-eqb f.to k.own).0 tests.0, (is_peer-Decides k f.from).0 tests.1, omega arith),
  λ h. judgement-unknown_owner k f h.0 ((is_peer-Decides k f.from).1 h.1) h.2,
)

pub bad_tag_law : (k : KeyFields) (f : FrameFields) →
    (judgement k f ≡ Err BadTag) ↔ ((f.to ≡ k.own) × IsPeer k f.from × (f.body.owner < length k.keys)
    × ¬ (IsTagged (key_for k f.from) f))
unfolding judgement
bad_tag_law k f =
    let tag = bytes_eq-Decides f.tag (right_tag (key_for k f.from) f) in (
      λ h. let tests = from_bad_tag _ _ _ _ _ h in (
        (Decides-eqb f.to k.own).0 tests.0,
        (is_peer-Decides k f.from).0 tests.1,
        (Decides-ltb f.body.owner (length k.keys)).0 tests.2,
        not_from_Decides _ tag tests.3,
      ),
      λ h. judgement-bad_tag k f h.0 ((is_peer-Decides k f.from).1 h.1) h.2 (false_from_ne_true _ (λ t. h.3 (tag.0 t))),
    )

pub no_repeat_law : (k : KeyFields) (f : FrameFields) (next : ℕ) → judgement k f ≢ Err (Repeat next)
unfolding judgement
no_repeat_law k f next =
    from_repeat (f.to == k.own) (is_peer k f.from) (nat_lt f.body.owner (length k.keys))
    (bytes_eq f.tag (right_tag (key_for k f.from) f)) (opened_fields k f) next

pub no_gap_law : (k : KeyFields) (f : FrameFields) (next : ℕ) → judgement k f ≢ Err (Gap next)
unfolding judgement
no_gap_law k f next =
    from_gap (f.to == k.own) (is_peer k f.from) (nat_lt f.body.owner (length k.keys))
    (bytes_eq f.tag (right_tag (key_for k f.from) f)) (opened_fields k f) next

pub opened_law : (k : KeyFields) (f : FrameFields) (o : OpenedFields) →
    (judgement k f ≡ Ok o) ↔ (Opens k f × (o ≡ opened_fields k f))
unfolding judgement
opened_law k f o =
    let tag = bytes_eq-Decides f.tag (right_tag (key_for k f.from) f) in (
      λ h. let tests = from_opened _ _ _ _ _ _ h in (
        record {
          for_me = (Decides-eqb f.to k.own).0 tests.0;
          sender = (is_peer-Decides k f.from).0 tests.1;
          owner = (Decides-ltb f.body.owner (length k.keys)).0 tests.2;
          tagged = tag.0 tests.3;
        },
        tests.4,
      ),
      λ h. let opens = h.0 in
          judgement-opened k f opens.for_me ((is_peer-Decides k f.from).1 opens.sender) opens.owner (tag.1 opens.tagged)
          ∙ ap Ok (sym h.1),
    )

-- what is sealed for a peer opens there
pub sealed_opens_law : (a b : KeyFields) (number : ℕ) (body : BodyFields) → IsPeer b a.own →
    key_for a b.own ≡ key_for b a.own → body.owner < length b.keys →
    judgement b (sealed_frame a b.own number body) ≡ Ok (opened_fields b (sealed_frame a b.own number body))
sealed_opens_law a b number body peer shared owner =
    (opened_law b (sealed_frame a b.own number body) _).1 (
      record {
        for_me = refl;
        sender = peer;
        owner = owner;
        tagged = ap (λ key. mac key (tagged_bytes a.own b.own number body)) shared;
      },
      refl,
    )
