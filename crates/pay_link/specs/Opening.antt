-- How a frame is authenticated or refused.
use Rattle.std.specs.Prelude.{◌≡◌, ◌≢◌, ℕ, ◌<◌, ◌==◌, nat_lt, List, length, Result, Ok, Err}
use Rattle.std.specs.Prelude.{if◌then◌else◌}
use Rattle.std.specs.Str.{bytes_eq}
use Rattle.pay_frame.specs.Frame.{FrameFields}
use Rattle.pay_hmac.specs.Mac.{mac}
use Rattle.pay_link.specs.Sealing.{tagged_bytes}
use Rattle.pay_link.specs.Keys.{IsPeer, KeyFields, is_peer, key_for}
use Rattle.pay_link.specs.declared.opened.LinkFault.{LinkFault}
use Rattle.pay_link.specs.declared.opened.LinkFault.TheVariants.{BadTag, NotForMe, UnknownOwner}
use Rattle.pay_link.specs.declared.opened.LinkFault.TheVariants.{UnknownSender}

-- the right tag of a frame under this key
abbrev pub right_tag : List ℕ → FrameFields → List ℕ
right_tag key f = mac key (tagged_bytes f.from f.to f.number f.body)

-- the frame has the right tag
abbrev pub IsTagged : List ℕ → FrameFields → Type 0
IsTagged key f = f.tag ≡ right_tag key f

-- a frame, the key that its receiver shares with its sender, and how many members there are
pub record OpenedFields : Type 0 where
  pub frame : FrameFields
  pub key : List ℕ
  pub members : ℕ

-- the frame has the right tag, and its sender and owner are known to its receiver
pub record IsOpened (o : OpenedFields) : Type 0 where
  pub tagged : IsTagged o.key o.frame
  pub sender : o.frame.from < o.members
  pub other : o.frame.from ≢ o.frame.to
  pub owner : o.frame.body.owner < o.members

-- what an authenticated frame is to the member with these keys
abbrev pub opened_fields : KeyFields → FrameFields → OpenedFields
opened_fields k f = record { frame = f; key = key_for k f.from; members = length k.keys }

-- the frame is for the member with these keys, from a peer, about a member's broadcast, and has the
-- right tag
pub record Opens (k : KeyFields) (f : FrameFields) : Type 0 where
  pub for_me : f.to ≡ k.own
  pub sender : IsPeer k f.from
  pub owner : f.body.owner < length k.keys
  pub tagged : IsTagged (key_for k f.from) f

-- the opened frame, if its tag is right
abbrev pub if_tagged : KeyFields → FrameFields → Result OpenedFields LinkFault
if_tagged k f =
    if bytes_eq f.tag (right_tag (key_for k f.from) f) then Ok (opened_fields k f) else Err BadTag

-- the first cause of refusal that holds, or the authenticated frame
-- page: `judgement`, `Opens`: the first of four causes to refuse a frame, or that it opens
unfoldable pub judgement : KeyFields → FrameFields → Result OpenedFields LinkFault
judgement k f =
    if f.to == k.own
    then (if is_peer k f.from
    then (if nat_lt f.body.owner (length k.keys)
    then if_tagged k f
    else Err UnknownOwner)
    else Err UnknownSender)
    else Err NotForMe
