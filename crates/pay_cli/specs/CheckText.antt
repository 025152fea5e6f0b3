-- The text of `check` for a list of bytes. Each frame of the stream has a line, followed by a line
-- for what its value pays, if that is requested. The fault that the stream ends with has a line.
use Rattle.std.specs.Prelude.{ℕ, Bool, false, ◌==◌, List, [], ◌∷◌, ◌++◌, length, replicate, Option}
use Rattle.pay_frame.specs.declared.reading.FrameFault.{FrameFault}
use Rattle.pay_frame.specs.Frame.{FrameFields}
use Rattle.pay_frame.specs.Exact.{Function, IsText, state_after}
use Rattle.pay_link.specs.Keys.{KeyFields}
use Rattle.pay_cli.specs.declared.check.Progress.{Progress}
use Rattle.pay_cli.specs.Lines.{Outcome, Taken, Wanted, Refused, check_outcome, line_of}
use Rattle.pay_cli.specs.Lines.{progress_after}
use Rattle.pay_cli.specs.Lines.{fault_line}
use Rattle.pay_cli.specs.Values.{CheckerFields, value_line}

-- a frame's line, and that of its value
abbrev pub frame_lines : CheckerFields → Progress → FrameFields → List ℕ
frame_lines q p f = line_of q.keys p f ++ value_line q f

-- the lines of each frame, and the one of a fault
abbrev pub checking : CheckerFields → Function Progress
checking q = record {
  after = progress_after q.keys;
  text = frame_lines q;
  fault_text = λ p fault. fault_line p.line fault;
}

-- before the first line nothing was accepted
abbrev pub at_start : KeyFields → Progress
at_start k = record { fronts = replicate (length k.keys) 0; line = 1 }

-- what is known after some frames
abbrev pub known_after : CheckerFields → Progress → List FrameFields → Progress
known_after q p frames = state_after (checking q) p frames

-- the text of these bytes, and the fault that it ends with
pub record IsCheckText (q : CheckerFields) (bytes text : List ℕ) (ending : Option FrameFault)
    : Type 0 where
  pub known : Progress
  pub is : IsText (checking q) [] (at_start q.keys) known bytes text ending

-- bytes have some text
pub record HasCheckText (q : CheckerFields) (bytes : List ℕ) : Type 0 where
  pub text : List ℕ
  pub ending : Option FrameFault
  pub is : IsCheckText q bytes text ending

-- ---- where the next numbers come from

-- some frames, each with what becomes of it
abbrev pub outcomes : KeyFields → Progress → List FrameFields → List (FrameFields × Outcome)
outcomes k p [] = []
outcomes k p (f ∷ fs) = (f, check_outcome k p.fronts f) ∷ outcomes k (progress_after k p f) fs

-- an `ok` line of this member
abbrev pub is_ok_from : ℕ → FrameFields × Outcome → Bool
is_ok_from member (f, Taken) = f.from == member
is_ok_from member (f, Wanted) = false
is_ok_from member (f, Refused fault) = false
