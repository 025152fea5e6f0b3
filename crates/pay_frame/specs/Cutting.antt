-- A stream is cut into frames, whatever pieces it comes in. A cutter holds a list of bytes, and its
-- calls are defined on that list.
use Rattle.std.specs.Prelude.{◌≡◌, ℕ, ◌-◌, ◌<◌, ◌≤◌, ◌⊎◌, List, [], ◌∷◌, ◌++◌, length, min, take}
use Rattle.std.specs.Prelude.{drop, is_some, if◌then◌else◌, Option, Some, None, Result, Ok, Err}
use Rattle.pay_frame.specs.declared.limits.TheConstants.{CUTTER_ROOM}
use Rattle.pay_frame.specs.declared.reading.FrameFault.{FrameFault}
use Rattle.pay_frame.specs.declared.reading.FrameFault.TheVariants.{Truncated}
use Rattle.pay_frame.specs.Frame.{FrameFields, frame_bytes, IsFrame}
use Rattle.pay_frame.specs.Reading.{HasFrame, IsProperBeginning, IsFault}
use Rattle.pay_frame.specs.Stream.{IsFramesThen}

-- the bytes of the frame that was handed out last, those not yet handed out, and the fault found,
-- if any
pub record Held : Type 0 where
  pub given : List ℕ
  pub bytes : List ℕ
  pub met : Option FrameFault

-- A piece is offered: as much of it as fits is appended to the bytes held. Nothing is appended
-- after a fault.
pub record Feeds (old new : Held) (piece : List ℕ) (taken : ℕ) : Type 0 where
  pub count :
      taken ≡ (if is_some old.met then 0 else min (length piece) (CUTTER_ROOM - length old.bytes))
  pub appended : new.bytes ≡ old.bytes ++ take taken piece
  pub same_met : new.met ≡ old.met

-- The next frame is requested. The answer is the reading of the bytes held, and only the frame is
-- removed. A fault is permanent.
abbrev pub HandsOut : Held → Result (Option FrameFields) FrameFault → Held → Type 0
HandsOut old (Ok (Some f)) new =
    (old.met ≡ None) × IsFrame f × (old.bytes ≡ frame_bytes f ++ new.bytes) × (new.met ≡ None)
HandsOut old (Ok None) new =
    (old.met ≡ None) × IsProperBeginning old.bytes × (new.bytes ≡ old.bytes) × (new.met ≡ None)
HandsOut old (Err fault) new =
    ((old.met ≡ Some fault) ⊎ ((old.met ≡ None) × IsFault old.bytes fault))
    × (new.bytes ≡ old.bytes) × (new.met ≡ Some fault)

-- no complete frame is in front of these bytes: they begin with a proper prefix of a frame, or with
-- a fault
abbrev pub IsNoFrame : List ℕ → Type 0
IsNoFrame bytes = IsProperBeginning bytes ⊎ ((fault : FrameFault) × IsFault bytes fault)

-- `size` bytes in front are `count` complete frames. They are fewer than `most` only if no further
-- frame is complete.
pub record IsFront (bytes : List ℕ) (most size count : ℕ) : Type 0 where
  pub frames : List FrameFields
  pub fits : size ≤ length bytes
  pub cut : IsFramesThen (take size bytes) frames []
  pub counted : count ≡ length frames
  pub within : count ≤ most
  pub all : count < most → IsNoFrame (drop size bytes)
  pub none : count ≡ 0 → (size ≡ 0) × IsProperBeginning bytes

-- `count` complete frames are removed from the front, and lent. They are fewer than `most` only if
-- no further frame is complete.
pub record PassesFrames (old new : Held) (most count : ℕ) : Type 0 where
  pub frames : List FrameFields
  pub cut : IsFramesThen old.bytes frames new.bytes
  pub given : IsFramesThen new.given frames []
  pub counted : count ≡ length frames
  pub within : count ≤ most
  pub all : count < most → IsNoFrame new.bytes
  pub none : count ≡ 0 → IsProperBeginning new.bytes
  pub unmet : old.met ≡ None
  pub met : new.met ≡ None

-- the bytes are at fault, or are cut off
abbrev pub IsUnfinished : List ℕ → FrameFault → Type 0
IsUnfinished bytes fault = IsFault bytes fault ⊎ (IsProperBeginning bytes × (fault ≡ Truncated))

-- The stream ends: nothing may be held. What is held is at fault, or is cut off.
abbrev pub EndsWith : Held → Result Unit FrameFault → Type 0
EndsWith held (Ok _) = (held.met ≡ None) × (held.bytes ≡ [])
EndsWith held (Err fault) =
    (held.met ≡ Some fault)
    ⊎ ((held.met ≡ None) × (0 < length held.bytes) × IsUnfinished held.bytes fault)

-- ---- whole runs

-- a call of a cutter, with what it answered
pub data CutterCall : Type 0 where
  Fed : List ℕ → ℕ → CutterCall
  Gave : Result (Option FrameFields) FrameFault → CutterCall

-- the calls lead from one state to the other
abbrev pub Runs : Held → List CutterCall → Held → Type 0
Runs old [] new = new ≡ old
Runs old (Fed piece taken ∷ calls) new =
    (between : Held) × Feeds old between piece taken × Runs between calls new
Runs old (Gave answer ∷ calls) new =
    (between : Held) × HandsOut old answer between × Runs between calls new

-- the stream: all that was taken of the pieces
abbrev pub stream_of : List CutterCall → List ℕ
stream_of [] = []
stream_of (Fed piece taken ∷ calls) = take taken piece ++ stream_of calls
stream_of (Gave answer ∷ calls) = stream_of calls

abbrev pub frame_in : Result (Option FrameFields) FrameFault → List FrameFields
frame_in (Ok (Some f)) = f ∷ []
frame_in (Ok None) = []
frame_in (Err fault) = []

-- the frames handed out
abbrev pub frames_of : List CutterCall → List FrameFields
frames_of [] = []
frames_of (Fed piece taken ∷ calls) = frames_of calls
frames_of (Gave answer ∷ calls) = frame_in answer ++ frames_of calls

-- a cutter that was never fed
abbrev pub nothing_held : Held
nothing_held = record { given = []; bytes = []; met = None }

-- no whole frame is in front
abbrev pub IsDrained : List ℕ → Type 0
IsDrained bytes = (f : FrameFields) → HasFrame bytes f → ⊥
