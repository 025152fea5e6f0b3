-- A stream of bytes has one text, if a function of the state makes each frame's text.
use Rattle.std.specs.Prelude.{◌≡◌, ℕ, List, [], ◌∷◌, ◌++◌, Option, Some, None, IfSome, Result, Ok}
use Rattle.std.specs.Prelude.{Err, ⊤}
use Rattle.std.specs.List.{All}
use Rattle.std.specs.Io.KnownBytes.{Appends, IsAtEnd}
use Rattle.pay_frame.specs.declared.engine.EngineFault.{EngineFault}
use Rattle.pay_frame.specs.declared.engine.EngineFault.TheVariants.{Memory, Frame, Read, Write}
use Rattle.pay_frame.specs.declared.engine.EngineFault.TheVariants.{Bound}
use Rattle.pay_frame.specs.declared.reading.FrameFault.{FrameFault}
use Rattle.pay_frame.specs.Device.{WroteBeginning}
use Rattle.pay_frame.specs.Frame.{FrameFields, IsFrame}
use Rattle.pay_frame.specs.Stream.{IsBytes, IsFramesThen, IsStream}
use Rattle.pay_frame.specs.Handling.{Handling, never, Stage, Start}

-- The state and the text that a function makes of a state and a frame, and its text for the fault
-- that ends a stream.
pub record Function (S : Type 0) : Type 0 where
  pub after : S → FrameFields → S
  pub text : S → FrameFields → List ℕ
  pub fault_text : S → FrameFault → List ℕ

-- a step is what the function says, and no stream is left before its end
abbrev pub exactly : {S : Type 0} → Function S → Handling S
exactly h = record {
  step = λ before after f text. (after ≡ h.after before f) × (text ≡ h.text before f);
  may_stop = never;
  fault_text = h.fault_text;
}

-- the state after some frames
abbrev pub state_after : {S : Type 0} → Function S → S → List FrameFields → S
state_after h s [] = s
state_after h s (f ∷ fs) = state_after h (h.after s f) fs

-- the texts of some frames
abbrev pub texts_from : {S : Type 0} → Function S → S → List FrameFields → List ℕ
texts_from h s [] = []
texts_from h s (f ∷ fs) = h.text s f ++ texts_from h (h.after s f) fs

abbrev pub ending_text : {S : Type 0} → Function S → S → Option FrameFault → List ℕ
ending_text h s None = []
ending_text h s (Some fault) = h.fault_text s fault

-- the texts of some frames, and of the fault after them, if any
abbrev pub text_from :
    {S : Type 0} → Function S → S → List FrameFields → Option FrameFault → List ℕ
text_from h s frames ending = texts_from h s frames ++ ending_text h (state_after h s frames) ending

-- the text of these bytes after a first one, the fault that they end with, and the state after
-- them
pub record IsText {S : Type 0} (h : Function S) (first : List ℕ) (old new : S)
    (bytes text : List ℕ) (ending : Option FrameFault) : Type 0 where
  pub frames : List FrameFields
  pub stream : IsStream bytes frames ending
  pub texts : text ≡ first ++ text_from h old frames ending
  pub state : new ≡ state_after h old frames

-- ---- what is written of an input

-- the text of the whole input is written, and the input ends with this fault or none
abbrev pub WritesText :
    {S : Type 0} → Function S → Start S → Stage S → Option FrameFault → Type 0
WritesText h start stage ending =
    IfSome start.input (λ bytes.
    (text : List ℕ) × IsText h start.first start.state stage.state bytes text ending
    × Appends start.before stage.after text)

-- these bytes have a text, and a prefix of it is written
pub record BeginsText {S : Type 0} (h : Function S) (start : Start S) (after : Option (List ℕ))
    (bytes : List ℕ) : Type 0 where
  pub text : List ℕ
  pub ending : Option FrameFault
  pub last : S
  pub is : IsText h start.first start.state last bytes text ending
  pub wrote : WroteBeginning start.before after text

-- a prefix of the text of the whole input is written
abbrev pub WritesBeginning : {S : Type 0} → Function S → Start S → Option (List ℕ) → Type 0
WritesBeginning h start after =
    IfSome start.input (λ bytes. IsBytes bytes → BeginsText h start after bytes)

-- What is written, according to how the loop ended: the whole text at the input's end, or up to the
-- fault in what was read; otherwise a prefix of it.
abbrev pub Writes :
    {S : Type 0} → Function S → Start S → Stage S → Result ⊤ EngineFault → Type 0
Writes h start stage (Ok _) = WritesText h start stage None × IsAtEnd stage.left
Writes h start stage (Err (Frame fault)) = WritesText h start stage (Some fault)
Writes h start stage (Err Memory) = WritesBeginning h start stage.after
Writes h start stage (Err Read) = WritesBeginning h start stage.after
Writes h start stage (Err Write) = WritesBeginning h start stage.after
Writes h start stage (Err Bound) = WritesBeginning h start stage.after

-- The state is the one after some frames that the input begins with.
pub record TakesFrames {S : Type 0} (h : Function S) (start : Start S) (new : S) : Type 0 where
  pub frames : List FrameFields
  pub each : All IsFrame frames
  pub begins : IfSome start.input (λ bytes. (rest : List ℕ) × IsFramesThen bytes frames rest)
  pub state : new ≡ state_after h start.state frames
