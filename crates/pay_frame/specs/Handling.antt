-- A stream of frames is read, and each frame is handled. A relation says what is done with a frame,
-- and what text is written for it.
use Rattle.std.specs.Prelude.{◌≡◌, ◌⊎◌, ℕ, ◌*◌, ◌≤◌, Bool, true, false, List, [], ◌∷◌, ◌++◌}
use Rattle.std.specs.Prelude.{length}
use Rattle.std.specs.Prelude.{Option, Some, None, IfSome, Result, Ok, Err, ⊤}
use Rattle.std.specs.Io.KnownBytes.{Appends, Consumes, IsAtEnd}
use Rattle.std.specs.declared.alloc.AllocError.{AllocError}
use Rattle.pay_frame.specs.declared.engine.EngineFault.{EngineFault}
use Rattle.pay_frame.specs.declared.engine.EngineFault.TheVariants.{Memory, Frame, Read, Write}
use Rattle.pay_frame.specs.declared.engine.EngineFault.TheVariants.{Bound}
use Rattle.pay_frame.specs.declared.reading.FrameFault.{FrameFault}
use Rattle.pay_frame.specs.declared.limits.TheConstants.{MOST_READS, READ_ROOM}
use Rattle.pay_frame.specs.Device.{WroteBeginning}
use Rattle.pay_frame.specs.Frame.{FrameFields}
use Rattle.pay_frame.specs.Reading.{IsProperBeginning}
use Rattle.pay_frame.specs.Stream.{IsFramesThen, IsStream}

-- A step leads from a state to the next one by a frame, and has a text. `may_stop` says at which
-- frames a stream may be left before it ends: they have no text, and the state stays. `fault_text`
-- is the text of the fault that ends a stream.
-- page: `Handling`, `HasHandled`: the steps by which a frame may change a state, each with a text
--   (labelled transitions); where a stream may be left, and its fault's text; what was handled and
--   written, according to how it ended
pub record Handling (S : Type 0) : Type 1 where
  pub step : S → S → FrameFields → List ℕ → Type 0
  pub may_stop : S → FrameFields → Type 0
  pub fault_text : S → FrameFault → List ℕ

-- no stream is left before it ends
abbrev pub never : {S : Type 0} → S → FrameFields → Type 0
never s f = ⊥

-- the steps of some frames, one after the other, and their texts
abbrev pub Steps : {S : Type 0} → Handling S → S → S → List FrameFields → List ℕ → Type 0
Steps h before after [] text = (after ≡ before) × (text ≡ [])
Steps {S} h before after (f ∷ fs) text =
    (between : S) × (one : List ℕ) × (rest : List ℕ)
    × h.step before between f one × Steps h between after fs rest × (text ≡ one ++ rest)

abbrev pub ending_text : {S : Type 0} → Handling S → S → Option FrameFault → List ℕ
ending_text h s None = []
ending_text h s (Some fault) = h.fault_text s fault

-- ---- what a handler does

-- The handling of one frame, and whether the stream continues after it: its text is appended. If
-- memory runs out, the step was made or the state is unchanged.
abbrev pub HandlesOne :
    {S : Type 0} → Handling S → S → S → FrameFields → List ℕ → List ℕ → Result Bool AllocError
    → Type 0
HandlesOne h before after f old new (Ok true) =
    (text : List ℕ) × h.step before after f text × (new ≡ old ++ text)
HandlesOne h before after f old new (Ok false) =
    h.may_stop before f × (after ≡ before) × (new ≡ old)
HandlesOne h before after f old new (Err _) =
    (after ≡ before) ⊎ ((text : List ℕ) × h.step before after f text)

-- ---- a stream

-- The situation before a stream is read: the text to write first, the state, the input, and what
-- was written.
pub record Start (S : Type 0) : Type 0 where
  pub first : List ℕ
  pub state : S
  pub input : Option (List ℕ)
  pub before : Option (List ℕ)

-- The situation that a loop reached: the state, what is left of the input, and what was written.
pub record Stage (S : Type 0) : Type 0 where
  pub state : S
  pub left : Option (List ℕ)
  pub after : Option (List ℕ)

-- All that was read is frames and an end, and so is the whole input. All frames were handled, and
-- all texts are written.
pub record HandledAll {S : Type 0} (h : Handling S) (start : Start S) (stage : Stage S)
    (ending : Option FrameFault) : Type 0 where
  pub read : List ℕ
  pub consumed : Consumes start.input stage.left read
  pub frames : List FrameFields
  pub stream : IsStream read frames ending
  pub whole : IfSome start.input (λ bytes. IsStream bytes frames ending)
  pub text : List ℕ
  pub handled : Steps h start.state stage.state frames text
  pub written :
      Appends start.before stage.after
      (start.first ++ (text ++ ending_text h stage.state ending))

-- What follows the frames that were handled. It is more of what was read, without a claim about it,
-- or the fault that the stream ends with, and its text.
pub data IsTail {S : Type 0} (h : Handling S) (input : Option (List ℕ)) (state : S)
    (read : List ℕ) (frames : List FrameFields) : List ℕ → Type 0 where
  Open : (rest : List ℕ) → IsFramesThen read frames rest → IsTail h input state read frames []
  Ended :
      (fault : FrameFault) → IsStream read frames (Some fault)
      → IfSome input (λ bytes. IsStream bytes frames (Some fault))
      → IsTail h input state read frames (h.fault_text state fault)

-- The first frames of what was read were handled, and a prefix of the texts is written.
pub record HandledPrefix {S : Type 0} (h : Handling S) (start : Start S) (stage : Stage S)
    : Type 0 where
  pub read : List ℕ
  pub consumed : Consumes start.input stage.left read
  pub frames : List FrameFields
  pub text : List ℕ
  pub tail : List ℕ
  pub follows : IsTail h start.input stage.state read frames tail
  pub handled : Steps h start.state stage.state frames text
  pub written : WroteBeginning start.before stage.after (start.first ++ (text ++ tail))

-- The first frames of what was read were handled, the stream is left at the next one, and all
-- texts are written.
pub record HandledUpTo {S : Type 0} (h : Handling S) (start : Start S) (stage : Stage S)
    : Type 0 where
  pub read : List ℕ
  pub consumed : Consumes start.input stage.left read
  pub frames : List FrameFields
  pub last : FrameFields
  pub rest : List ℕ
  pub cut : IsFramesThen read (frames ++ last ∷ []) rest
  pub text : List ℕ
  pub handled : Steps h start.state stage.state frames text
  pub stopped : h.may_stop stage.state last
  pub written : Appends start.before stage.after (start.first ++ text)

-- The situation between two frames. `reads` reads that each gave something read some frames and
-- then `held`. The frames were handled, and their texts are written except for `waiting`.
pub record InProgress {S : Type 0} (h : Handling S) (start : Start S) (stage : Stage S)
    (held waiting : List ℕ) (reads : ℕ) : Type 0 where
  pub read : List ℕ
  pub consumed : Consumes start.input stage.left read
  pub frames : List FrameFields
  pub cut : IsFramesThen read frames held
  pub text : List ℕ
  pub handled : Steps h start.state stage.state frames text
  pub told : List ℕ
  pub written : Appends start.before stage.after told
  pub whole : start.first ++ text ≡ told ++ waiting
  pub few : length read ≤ reads * READ_ROOM
  pub many : reads ≤ length read

-- the first of the texts that waited are written
pub record WritesFront (before after : Option (List ℕ)) (old new : List ℕ) : Type 0 where
  pub sent : List ℕ
  pub written : Appends before after sent
  pub rest : old ≡ sent ++ new

-- All frames that `reads` reads gave were handled, a prefix of a frame may be left, and all texts
-- are written.
abbrev pub HandledRead : {S : Type 0} → Handling S → Start S → Stage S → ℕ → Type 0
HandledRead h start stage reads =
    (held : List ℕ) × InProgress h start stage held [] reads × IsProperBeginning held

-- What was handled, according to how the loop ended. At the input's end or fault it is everything,
-- or all up to a frame at which the stream may be left. After a failed read or at the read limit it
-- is all that was read. Otherwise it is the first frames of what was read.
abbrev pub HasHandled :
    {S : Type 0} → Handling S → Start S → Stage S → Result ⊤ EngineFault → Type 0
HasHandled h start stage (Ok _) =
    (HandledAll h start stage None × IsAtEnd stage.left) ⊎ HandledUpTo h start stage
HasHandled h start stage (Err (Frame fault)) = HandledAll h start stage (Some fault)
HasHandled h start stage (Err Memory) = HandledPrefix h start stage
HasHandled h start stage (Err Read) = (reads : ℕ) × HandledRead h start stage reads
HasHandled h start stage (Err Write) = HandledPrefix h start stage
HasHandled h start stage (Err Bound) = HandledRead h start stage MOST_READS

-- ---- what its parts do

-- the handling of the complete frames that are held
abbrev pub HandlesHeld :
    {S : Type 0} → Handling S → Start S → Stage S → List ℕ → ℕ → Result Bool EngineFault → Type 0
HandlesHeld h start stage held reads (Ok true) = InProgress h start stage held [] reads
HandlesHeld h start stage held reads (Ok false) = HasHandled h start stage (Ok tt)
HandlesHeld h start stage held reads (Err fault) = HasHandled h start stage (Err fault)
