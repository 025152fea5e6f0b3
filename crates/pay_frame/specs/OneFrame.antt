-- Bytes that are one frame and nothing else, defined by all frames and also computed. The law
-- `one_frame_is` says that both are the same.
use Rattle.std.specs.Prelude.{◌≡◌, ℕ, ◌-◌, ◌^◌, ◌<◌, Bool, not, ◌&&◌, ◌||◌, ◌==◌, nat_lt, nat_le}
use Rattle.std.specs.Prelude.{if◌then◌else◌, List, length, drop, slice_index, slice_range, Option}
use Rattle.std.specs.Prelude.{Some, None, option_and_then, Result, Ok, Err, bytes_eq}
use Rattle.pay_frame.specs.declared.limits.TheConstants.{HEAD_LEN, TAG_LEN, GREATEST_VALUE, SEQS}
use Rattle.pay_frame.specs.declared.reading.FrameFault.{FrameFault}
use Rattle.pay_frame.specs.declared.reading.FrameFault.TheVariants.{Truncated, Trailing}
use Rattle.pay_frame.specs.declared.body.Kind.{Kind}
use Rattle.pay_frame.specs.declared.body.Kind.TheVariants.{Send, Echo, Ready, Want}
use Rattle.pay_frame.specs.Frame.{BodyFields, FrameFields, body_of_parts, code_of, frame_bytes}
use Rattle.pay_frame.specs.Frame.{IsFrame}
use Rattle.pay_frame.specs.Places.{two_at, four_at, eight_at}
use Rattle.pay_frame.specs.Reading.{HasFrame, IsProperBeginning, IsFault}

-- the bytes are this frame, all of them
pub record IsOneFrame (bytes : List ℕ) (f : FrameFields) : Type 0 where
  pub is : IsFrame f
  pub spelled : bytes ≡ frame_bytes f

-- a frame, and bytes after it
pub record IsFollowed (bytes : List ℕ) : Type 0 where
  pub frame : FrameFields
  pub has : HasFrame bytes frame
  pub more : 0 < length has.rest

-- the reading of the bytes as one frame: the frame, or that they end inside it, or that more bytes
-- follow it, or the fault that they have
abbrev pub IsOneReading : List ℕ → Result FrameFields FrameFault → Type 0
IsOneReading bytes (Ok f) = IsOneFrame bytes f
IsOneReading bytes (Err Truncated) = IsProperBeginning bytes
IsOneReading bytes (Err Trailing) = IsFollowed bytes
IsOneReading bytes (Err fault) = IsFault bytes fault

-- ---- computed

abbrev pub kind_of : ℕ → Option Kind
kind_of code =
    if code == 1 then Some Send
    else if code == 2 then Some Echo
    else if code == 3 then Some Ready
    else if code == 4 then Some Want
    else None

-- the fields that stand at their places; the tag is what ends the bytes
abbrev pub fields_at : List ℕ → Kind → FrameFields
fields_at bytes kind =
    let end : ℕ = length bytes - TAG_LEN in
    record {
      from = two_at bytes 4;
      to = two_at bytes 6;
      number = eight_at bytes 8;
      body = body_of_parts kind (two_at bytes 16) (four_at bytes 18)
          (slice_range bytes HEAD_LEN end);
      tag = drop end bytes;
    }

-- `IsBody` and `IsFrame` as tests
abbrev pub is_bare : BodyFields → Bool
is_bare body = (body.owner == 0) && (body.seq == 0) && (length body.value == 0)

abbrev pub is_body : BodyFields → Bool
is_body body =
    nat_lt body.owner (2 ^ 16) && nat_lt body.seq SEQS && nat_le (length body.value) GREATEST_VALUE
    && (not (code_of body.kind == 4) || is_bare body)

abbrev pub is_frame : FrameFields → Bool
is_frame f =
    nat_lt f.from (2 ^ 16) && nat_lt f.to (2 ^ 16) && nat_lt f.number (2 ^ 64) && is_body f.body
    && (length f.tag == TAG_LEN)

abbrev pub if_spelled : List ℕ → FrameFields → Option FrameFields
if_spelled bytes f = if is_frame f && bytes_eq (frame_bytes f) bytes then Some f else None

-- the frame that the bytes are, if they are one frame: the fields at their places, if these are
-- within the limits and the bytes are their encoding
unfoldable pub one_frame : List ℕ → Option FrameFields
one_frame bytes =
    option_and_then (λ kind. if_spelled bytes (fields_at bytes kind))
    (kind_of (slice_index bytes 3))
