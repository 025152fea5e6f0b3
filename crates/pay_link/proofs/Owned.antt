-- What owning an opened frame keeps.
use Rattle.std.proofs.Common.{◌≡◌, ◌≢◌, ℕ, ◌<◌, List, length, Ok, refl, sym, ap, ◌∙◌, subst}
use Rattle.pay_frame.specs.declared.body.Kind.TheVariants.{Want}
use Rattle.pay_frame.specs.Frame.{BodyFields, FrameFields, IsFrame, frame_of_parts}
use Rattle.pay_frame.specs.OneFrame.{IsOneFrame}
use Rattle.pay_link.specs.Checked.{CheckedFields, IsChecked, IsFor, bytes_of, checked_fields, checked_from, checked_parts}
use Rattle.pay_link.specs.Keys.{IsPeer, KeyFields, key_for}
use Rattle.pay_link.specs.Opening.{IsTagged, OpenedFields, judgement, opened_fields}
use Rattle.pay_link.specs.Sealing.{sealed_frame}
use Rattle.pay_link.proofs.Judged.{opened_law}

-- the parts of an opened frame are that frame: its tag follows from the rest
pub parts_of_opened : (o : OpenedFields) → IsTagged o.key o.frame →
    checked_parts o.frame.from o.frame.to o.frame.number o.frame.body o.key ≡ checked_fields o
parts_of_opened o tagged =
    let With : List ℕ → CheckedFields = λ tag.
    record { frame = frame_of_parts o.frame.from o.frame.to o.frame.number o.frame.body tag; key = o.key } in
    ap With (sym tagged)

pub kept_law : (k : KeyFields) (f : FrameFields) (o : OpenedFields) → IsFrame f → f.body.kind ≢ Want →
    judgement k f ≡ Ok o → IsChecked (checked_fields o) × IsFor k (checked_fields o)
kept_law k f o is_frame kind judged =
    let told = (opened_law k f o).0 judged in
    let opens = told.0 in
    let P : OpenedFields → Type 0 = λ x. IsChecked (checked_fields x) × IsFor k (checked_fields x) in
    subst P (sym told.1) (
      record { frame = is_frame; tagged = opens.tagged; kind = kind },
      record { receiver = opens.for_me; sender = opens.sender; owner = opens.owner; key = refl },
    )

pub opens_again_law : (k : KeyFields) (c : CheckedFields) → IsChecked c → IsFor k c →
    (judgement k c.frame ≡ Ok (opened_fields k c.frame)) × (checked_fields (opened_fields k c.frame) ≡ c)
opens_again_law k c is_checked is_for = (
  (opened_law k c.frame (opened_fields k c.frame)).1 (
    record {
      for_me = is_for.receiver;
      sender = is_for.sender;
      owner = is_for.owner;
      tagged = rw is_for.key at is_checked.tagged;
    },
    refl,
  ),
  ap (λ key. let x : CheckedFields = record { frame = c.frame; key = key } in x) (sym is_for.key),
)

-- what is for a member is what its peer seals for it
pub sealed_by_peer_law : (k : KeyFields) (c : CheckedFields) → IsChecked c → IsFor k c →
    c ≡ checked_from k c.frame.from c.frame.number c.frame.body
sealed_by_peer_law k c is_checked is_for =
    let With : ℕ → List ℕ → CheckedFields = λ to key. checked_parts c.frame.from to c.frame.number c.frame.body key in
    let parts : c ≡ With c.frame.to c.key =
    sym (parts_of_opened (record { frame = c.frame; key = c.key; members = 0 }) is_checked.tagged) in
    parts ∙ ap (λ to. With to c.key) is_for.receiver ∙ ap (With k.own) is_for.key

pub from_peer_law : (k : KeyFields) (from number : ℕ) (body : BodyFields) → IsPeer k from →
    body.owner < length k.keys → IsFor k (checked_from k from number body)
from_peer_law k from number body peer owner =
    record { receiver = refl; sender = peer; owner = owner; key = refl }

pub one_frame_law : (c : CheckedFields) → IsChecked c → IsOneFrame (bytes_of c) c.frame
one_frame_law c is_checked = record { is = is_checked.frame; spelled = refl }

-- what is sealed for a peer opens there, and is then what was owned
pub sealed_owned : (a k : KeyFields) (to number : ℕ) (body : BodyFields) (c : CheckedFields) → IsChecked c →
    c ≡ record { frame = sealed_frame a to number body; key = key_for a to } → k.own ≡ to → IsPeer k a.own →
    key_for a to ≡ key_for k a.own → body.owner < length k.keys →
    IsFor k c × (judgement k c.frame ≡ Ok (opened_fields k c.frame)) × (checked_fields (opened_fields k c.frame) ≡ c)
sealed_owned a k to number body c is_checked value own peer shared owner =
    let is_for : IsFor k c = subst (IsFor k) (sym value) (record {
      receiver = sym own;
      sender = peer;
      owner = owner;
      key = shared;
    }) in
    let again = opens_again_law k c is_checked is_for in
    (is_for, again.0, again.1)
