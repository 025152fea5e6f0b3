-- A frame that was authenticated and is kept, with the key that authenticated it.
use Rattle.std.specs.Prelude.{◌≡◌, ◌≢◌, ◌<◌, ℕ, List, length}
use Rattle.pay_frame.specs.Frame.{BodyFields, FrameFields, IsFrame, frame_bytes}
use Rattle.pay_frame.specs.declared.body.Kind.TheVariants.{Want}
use Rattle.pay_hmac.specs.Mac.{mac}
use Rattle.pay_link.specs.Keys.{IsPeer, KeyFields, key_for}
use Rattle.pay_link.specs.Opening.{IsTagged, OpenedFields}
use Rattle.pay_link.specs.Sealing.{tagged_bytes}

-- a frame, and the key that its receiver shares with its sender
pub record CheckedFields : Type 0 where
  pub frame : FrameFields
  pub key : List ℕ

-- the frame of these parts with the tag that is right under a key, and that key
abbrev pub checked_parts : ℕ → ℕ → ℕ → BodyFields → List ℕ → CheckedFields
checked_parts from to number body key = record {
  frame = record {
    from = from;
    to = to;
    number = number;
    body = body;
    tag = mac key (tagged_bytes from to number body);
  };
  key = key;
}

-- within a frame's limits, with the right tag under that key, and no WANT
pub record IsChecked (c : CheckedFields) : Type 0 where
  pub frame : IsFrame c.frame
  pub tagged : IsTagged c.key c.frame
  pub kind : c.frame.body.kind ≢ Want

-- what is kept of an authenticated frame
abbrev pub checked_fields : OpenedFields → CheckedFields
checked_fields o = record { frame = o.frame; key = o.key }

-- the frame that a peer encodes for the member with these keys
abbrev pub checked_from : KeyFields → ℕ → ℕ → BodyFields → CheckedFields
checked_from k from number body = record {
  frame = record {
    from = from;
    to = k.own;
    number = number;
    body = body;
    tag = mac (key_for k from) (tagged_bytes from k.own number body);
  };
  key = key_for k from;
}

-- the bytes of the frame, its tag included
abbrev pub bytes_of : CheckedFields → List ℕ
bytes_of c = frame_bytes c.frame

-- for the member with these keys: sent to it, from a peer, about a member's broadcast, and under
-- the very key that it shares with that peer
pub record IsFor (k : KeyFields) (c : CheckedFields) : Type 0 where
  pub receiver : c.frame.to ≡ k.own
  pub sender : IsPeer k c.frame.from
  pub owner : c.frame.body.owner < length k.keys
  pub key : c.key ≡ key_for k c.frame.from
