-- How bytes read: as a frame in front, as a proper prefix of a frame, or as a fault. Each is
-- defined by all frames, and not by how a reader goes over the bytes.
use Rattle.std.specs.Prelude.{◌≡◌, ℕ, ◌+◌, ◌<◌, ◌≤◌, Bool, ◌==◌, nat_lt, if◌then◌else◌, List, ◌++◌}
use Rattle.std.specs.Prelude.{length, take, slice_index, Option, Some, None, Result, Ok, Err}
use Rattle.pay_frame.specs.declared.reading.FrameFault.{FrameFault}
use Rattle.pay_frame.specs.declared.reading.FrameFault.TheVariants.{BadLength, BadVersion, BadKind}
use Rattle.pay_frame.specs.declared.reading.FrameFault.TheVariants.{BadValueLength, BadSeq, BadWant}
use Rattle.pay_frame.specs.Frame.{FrameFields, frame_bytes, IsFrame}

-- the bytes are a frame, followed by more or by nothing
pub record HasFrame (bytes : List ℕ) (f : FrameFields) : Type 0 where
  pub is : IsFrame f
  pub rest : List ℕ
  pub spelled : bytes ≡ frame_bytes f ++ rest

-- some frame starts with these bytes
pub record StartsFrame (bytes : List ℕ) : Type 0 where
  pub frame : FrameFields
  pub is : IsFrame frame
  pub rest : List ℕ
  pub spelled : frame_bytes frame ≡ bytes ++ rest

-- some frame starts with these bytes and continues after them
pub record IsProperBeginning (bytes : List ℕ) : Type 0 where
  pub starts : StartsFrame bytes
  pub more : 0 < length starts.rest

-- the fault that the byte at a place names, for the places at which one can be found first
abbrev pub fault_at : List ℕ → ℕ → Option FrameFault
fault_at bytes place =
    let want : Bool = slice_index bytes 3 == 4 in
    if nat_lt place 2 then Some BadLength
    else if place == 2 then Some BadVersion
    else if place == 3 then Some (if want then BadWant else BadKind)
    else if nat_lt place 16 then None
    else if nat_lt place 18 then Some BadWant
    else if nat_lt place 22 then Some (if want then BadWant else BadSeq)
    else if nat_lt place 24 then Some BadValueLength
    else None

-- Bytes are at fault if they neither begin with a frame nor are a prefix of one. `place` is the
-- first place up to which no frame starts with the bytes, and the byte there names the fault.
pub record IsFault (bytes : List ℕ) (fault : FrameFault) : Type 0 where
  pub no_frame : (f : FrameFields) → HasFrame bytes f → ⊥
  pub place : ℕ
  pub within : place < length bytes
  pub before : (k : ℕ) → k ≤ place → StartsFrame (take k bytes)
  pub wrong : StartsFrame (take (place + 1) bytes) → ⊥
  pub named : fault_at bytes place ≡ Some fault

-- the reading of the bytes: the frame in front and its size, nothing yet, or the fault
abbrev pub IsReading : List ℕ → Result (Option (FrameFields × ℕ)) FrameFault → Type 0
IsReading bytes (Ok (Some (f, size))) = HasFrame bytes f × (size ≡ length (frame_bytes f))
IsReading bytes (Ok None) = IsProperBeginning bytes
IsReading bytes (Err fault) = IsFault bytes fault
