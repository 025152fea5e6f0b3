-- Frames under the test keys.
use Rattle.std.specs.Prelude.{ℕ, List}
use Rattle.pay_frame.specs.Frame.{BodyFields, frame_bytes}
use Rattle.pay_hmac.specs.Mac.{mac}
use Rattle.pay_link.specs.Sealing.{tagged_bytes}
use Rattle.pay_link.specs.TestKeys.{pair_key}

-- the right tag of a frame under the test key of the two members
unfoldable pub test_tag : ℕ → ℕ → ℕ → BodyFields → List ℕ
test_tag from to number body = mac (pair_key from to) (tagged_bytes from to number body)

-- the bytes of the frame that encodes a body, with that tag
unfoldable pub test_frame : ℕ → ℕ → ℕ → BodyFields → List ℕ
test_frame from to number body =
    frame_bytes (record {
      from = from;
      to = to;
      number = number;
      body = body;
      tag = test_tag from to number body;
    })
