-- A whole stream of bytes: frames one after the other, and how it ends. It doesn't depend on the
-- pieces that it comes in, or on how far a reader is.
use Rattle.std.specs.Prelude.{◌≡◌, ℕ, ◌<◌, List, [], ◌++◌, length, slice_index, Option, Some, None}
use Rattle.std.specs.Prelude.{Result, Ok, Err}
use Rattle.std.specs.List.{All, flat_map}
use Rattle.pay_frame.specs.declared.reading.FrameFault.{FrameFault}
use Rattle.pay_frame.specs.declared.reading.FrameFault.TheVariants.{Truncated}
use Rattle.pay_frame.specs.Frame.{FrameFields, frame_bytes, IsFrame}
use Rattle.pay_frame.specs.Reading.{IsProperBeginning, IsFault}

-- each item is a byte
pub record IsBytes (bytes : List ℕ) : Type 0 where
  pub fits : (i : ℕ) → slice_index bytes i < 256

-- the bytes are these frames, and a rest after them
pub record IsFramesThen (bytes : List ℕ) (frames : List FrameFields) (rest : List ℕ) : Type 0 where
  pub each : All IsFrame frames
  pub parts : bytes ≡ flat_map frame_bytes frames ++ rest

-- What is after the frames, and the fault that it ends the stream with, if any: nothing, a frame
-- that is cut off, or bytes that begin no frame.
pub data IsStreamEnd (rest : List ℕ) : Option FrameFault → Type 0 where
  Nothing : rest ≡ [] → IsStreamEnd rest None
  CutOff : 0 < length rest → IsProperBeginning rest → IsStreamEnd rest (Some Truncated)
  Faulty : {fault : FrameFault} → IsFault rest fault → IsStreamEnd rest (Some fault)

-- the stream is these frames, and ends with this fault or none
pub record IsStream (bytes : List ℕ) (frames : List FrameFields) (ending : Option FrameFault)
    : Type 0 where
  pub rest : List ℕ
  pub cut : IsFramesThen bytes frames rest
  pub ends : IsStreamEnd rest ending

-- a stream has some frames and some end
pub record HasStream (bytes : List ℕ) : Type 0 where
  pub frames : List FrameFields
  pub ending : Option FrameFault
  pub is : IsStream bytes frames ending

-- The rest of a stream comes after its first frames: the frames that follow, and the same end.
pub record GoesOn (rest : List ℕ) (first all : List FrameFields) (ending : Option FrameFault)
    : Type 0 where
  pub more : List FrameFields
  pub parts : all ≡ first ++ more
  pub is : IsStream rest more ending

-- the stream's end that a cutter's answer at the input's end means
abbrev pub stream_end : Result Unit FrameFault → Option FrameFault
stream_end (Ok _) = None
stream_end (Err fault) = Some fault

-- ---- the laws that loops use, by name: `read` is what was read so far, `first` the frames handed
-- out, `held` the bytes left, `more` the bytes not read yet

abbrev pub EveryStream : Type 0
EveryStream = (bytes : List ℕ) → IsBytes bytes → HasStream bytes

abbrev pub Joins : Type 0
Joins =
    (read held more : List ℕ) (first frames : List FrameFields) (ending : Option FrameFault)
    → IsFramesThen read first held → IsStream (held ++ more) frames ending
    → IsStream (read ++ more) (first ++ frames) ending

abbrev pub Parts : Type 0
Parts =
    (read held more : List ℕ) (first all : List FrameFields) (ending : Option FrameFault)
    → IsFramesThen read first held → IsStream (read ++ more) all ending
    → GoesOn (held ++ more) first all ending
