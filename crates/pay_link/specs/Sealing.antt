-- What a member sends to a peer.
use Rattle.std.specs.Prelude.{ℕ, List, [], ◌++◌}
use Rattle.pay_frame.specs.Frame.{BodyFields, FrameFields, head_bytes}
use Rattle.pay_frame.specs.declared.body.Kind.TheVariants.{Want}
use Rattle.pay_hmac.specs.Mac.{mac}
use Rattle.pay_link.specs.Keys.{KeyFields, key_for}

-- what the tag of a frame covers: all bytes that stand before it
-- page: `tagged_bytes`, `sealed_frame`: a tag covers all bytes before it, while the book's covers
--   sender, receiver and message; the frame of a body for a peer, with its right tag
unfoldable pub tagged_bytes : ℕ → ℕ → ℕ → BodyFields → List ℕ
tagged_bytes from to number body = head_bytes from to number body ++ body.value

-- the frame that encodes a body for a peer under this number, with the tag under their key
abbrev pub sealed_frame : KeyFields → ℕ → ℕ → BodyFields → FrameFields
sealed_frame k to number body = record {
  from = k.own;
  to = to;
  number = number;
  body = body;
  tag = mac (key_for k to) (tagged_bytes k.own to number body);
}

-- what a WANT contains besides the number from which it requests frames
abbrev pub want_body : BodyFields
want_body = record { kind = Want; owner = 0; seq = 0; value = [] }

-- the WANT that requests a peer's frames from a number on
abbrev pub want_frame : KeyFields → ℕ → ℕ → FrameFields
want_frame k to number = sealed_frame k to number want_body
