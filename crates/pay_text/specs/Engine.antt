-- What the loop that answers lines reads and writes, as far as that is known.
use Rattle.std.specs.Prelude.{◌≡◌, ℕ, ◌≤◌, Bool, true, false, List, [], ◌++◌, ◌⊎◌, length}
use Rattle.std.specs.Prelude.{IfSome, Option, Some, None, Result, Ok, Err}
use Rattle.std.specs.Io.KnownBytes.{Appends, Consumes, IsAtEnd}
use Rattle.pay_frame.specs.declared.device.StreamFault.{StreamFault}
use Rattle.pay_frame.specs.Device.{WroteBeginning}
use Rattle.pay_text.specs.Lines.{lines_within}
use Rattle.pay_text.specs.Cutting.{lines_after}
use Rattle.pay_text.specs.Answers.{Answers, Either}

-- ---- the answerer, and what was said

-- What becomes of the answerer by a line, with its answer and whether a line may follow, and what
-- becomes of it if memory runs out.
pub record Answering (A : Type 0) : Type 1 where
  pub says : A → Option (List ℕ) → List ℕ → Bool → A → Type 0
  pub gives_up : A → A → Type 0

-- The state of a dialogue: the answerer, and what is written.
pub record Dialogue (A : Type 0) : Type 0 where
  pub answerer : A
  pub written : Option (List ℕ)

-- What was read: the whole input, what is left of it, and the count of reads that gave something.
pub record Intake : Type 0 where
  pub input : Option (List ℕ)
  pub left : Option (List ℕ)
  pub reads : ℕ

-- ---- what the loop does

-- All lines that may be answered are answered, and all answers are written.
pub record AnswersAll {A : Type 0} (says : A → Option (List ℕ) → List ℕ → Bool → A → Type 0)
    (lines : List (Option (List ℕ))) (old new : Dialogue A) (on : Bool) : Type 0 where
  pub text : List ℕ
  pub answers : Answers says old.answerer lines text on new.answerer
  pub written : Appends old.written new.written text

-- The first lines are answered, and a prefix of the answers is written. The answerer is as it was
-- after those lines, or it gave up at the next line.
pub record AnswersFirst {A : Type 0} (answering : Answering A) (lines : List (Option (List ℕ)))
    (old new : Dialogue A) : Type 0 where
  pub first : List (Option (List ℕ))
  pub others : List (Option (List ℕ))
  pub parts : lines ≡ first ++ others
  pub text : List ℕ
  pub on : Bool
  pub mid : A
  pub answers : Answers answering.says old.answerer first text on mid
  pub wrote : WroteBeginning old.written new.written text
  pub ends : (new.answerer ≡ mid) ⊎ answering.gives_up mid new.answerer

-- What is written, according to how the loop ended. At the input's end, or at the first line after
-- which none may follow, it is the answers to all lines up to there. Otherwise it is a prefix of
-- them.
abbrev pub WritesByEnd :
    {A : Type 0} → Answering A → ℕ → Dialogue A → Dialogue A → Option (List ℕ) → Option (List ℕ)
    → Result Bool StreamFault → Type 0
WritesByEnd answering bound old new input left (Ok on) =
    IfSome input (λ bytes. AnswersAll answering.says (lines_within bound bytes) old new on)
    × Either on (IsAtEnd left) Unit
WritesByEnd answering bound old new input left (Err fault) =
    IfSome input (λ bytes. AnswersFirst answering (lines_within bound bytes) old new)

-- ---- what its parts do

-- Of the lines to come these are left. The others are answered and their answers are written.
pub record AnswersUntil {A : Type 0} (says : A → Option (List ℕ) → List ℕ → Bool → A → Type 0)
    (lines left : List (Option (List ℕ))) (old new : Dialogue A) : Type 0 where
  pub answered : List (Option (List ℕ))
  pub parts : lines ≡ answered ++ left
  pub text : List ℕ
  pub answers : Answers says old.answerer answered text true new.answerer
  pub written : Appends old.written new.written text

-- What some bytes do: lines are left, or the last line that may be answered is answered, or the
-- loop broke off.
abbrev pub AnswersSome :
    {A : Type 0} → Answering A → List (Option (List ℕ)) → List (Option (List ℕ)) → Dialogue A
    → Dialogue A → Result Bool StreamFault → Type 0
AnswersSome answering lines left old new (Ok true) =
    AnswersUntil answering.says lines left old new
AnswersSome answering lines left old new (Ok false) =
    AnswersAll answering.says lines old new false
AnswersSome answering lines left old new (Err fault) = AnswersFirst answering lines old new

-- the lines to come, if a line has begun and this is left of the input
abbrev pub lines_left : ℕ → Option (List ℕ) → Option (List ℕ) → List (Option (List ℕ))
lines_left bound begun None = []
lines_left bound begun (Some left) = lines_after bound begun left

-- The situation between two reads: the lines that were read whole are answered.
pub record IsGoing {A : Type 0} (says : A → Option (List ℕ) → List ℕ → Bool → A → Type 0)
    (bound : ℕ) (begun : Option (List ℕ)) (intake : Intake) (old new : Dialogue A)
    : Type 0 where
  pub read : List ℕ
  pub consumed : Consumes intake.input intake.left read
  pub many : intake.reads ≤ length read
  pub went :
      IfSome intake.input
      (λ bytes. AnswersUntil says (lines_within bound bytes)
      (lines_left bound begun intake.left) old new)

-- after one more read: the loop continues with what was read, or it ended
abbrev pub Reads :
    {A : Type 0} → Answering A → ℕ → Option (List ℕ) → Intake → Dialogue A → Dialogue A
    → Result (Option Bool) StreamFault → Type 0
Reads answering bound begun intake old new (Ok None) =
    IsGoing answering.says bound begun intake old new
Reads answering bound begun intake old new (Ok (Some on)) =
    WritesByEnd answering bound old new intake.input intake.left (Ok on)
Reads answering bound begun intake old new (Err fault) =
    WritesByEnd answering bound old new intake.input intake.left (Err fault)
