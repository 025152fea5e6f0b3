-- Answers that wait until they are written together.
use Rattle.std.specs.Prelude.{◌≡◌, ℕ, Bool, true, false, List, ◌++◌, ◌⊎◌, Option, Result, Ok, Err}
use Rattle.std.specs.Io.KnownBytes.{Appends}
use Rattle.pay_frame.specs.declared.device.StreamFault.{StreamFault}
use Rattle.pay_frame.specs.declared.device.StreamFault.TheVariants.{Memory, Read, Write, Bound}
use Rattle.pay_frame.specs.Device.{WroteBeginning}
use Rattle.pay_text.specs.Answers.{Answers}
use Rattle.pay_text.specs.Engine.{Answering}

-- A text is appended to the texts that wait: all of that is written, or still waits, in order.
pub record Puts (before after : Option (List ℕ)) (old new text : List ℕ) : Type 0 where
  pub out : List ℕ
  pub written : Appends before after out
  pub all : old ++ text ≡ out ++ new

-- The answerer, what is written, and what waits.
pub record Backlog (A : Type 0) : Type 0 where
  pub answerer : A
  pub written : Option (List ℕ)
  pub waits : List ℕ

-- a text is put after a backlog
abbrev pub PutsAfter : {A : Type 0} → Backlog A → Backlog A → List ℕ → Type 0
PutsAfter old new text = Puts old.written new.written old.waits new.waits text

-- Of the lines to come these are left. The others are answered, and their answers are appended.
pub record PutsUntil {A : Type 0} (says : A → Option (List ℕ) → List ℕ → Bool → A → Type 0)
    (lines left : List (Option (List ℕ))) (old new : Backlog A) : Type 0 where
  pub answered : List (Option (List ℕ))
  pub parts : lines ≡ answered ++ left
  pub text : List ℕ
  pub answers : Answers says old.answerer answered text true new.answerer
  pub puts : PutsAfter old new text

-- The last line that may be answered is answered, and all answers are appended.
pub record PutAll {A : Type 0} (says : A → Option (List ℕ) → List ℕ → Bool → A → Type 0)
    (lines : List (Option (List ℕ))) (old new : Backlog A) : Type 0 where
  pub text : List ℕ
  pub answers : Answers says old.answerer lines text false new.answerer
  pub puts : PutsAfter old new text

-- The first lines are answered and their answers are appended. At the next line memory ran out.
pub record PutFirst {A : Type 0} (answering : Answering A) (lines : List (Option (List ℕ)))
    (old new : Backlog A) : Type 0 where
  pub first : List (Option (List ℕ))
  pub others : List (Option (List ℕ))
  pub parts : lines ≡ first ++ others
  pub text : List ℕ
  pub mid : A
  pub answers : Answers answering.says old.answerer first text true mid
  pub puts : PutsAfter old new text
  pub ends : answering.gives_up mid new.answerer

-- The first lines are answered. A write failed, and a prefix of the waiting texts and of these
-- answers is written.
pub record BrokeOff {A : Type 0} (says : A → Option (List ℕ) → List ℕ → Bool → A → Type 0)
    (lines : List (Option (List ℕ))) (old new : Backlog A) : Type 0 where
  pub first : List (Option (List ℕ))
  pub others : List (Option (List ℕ))
  pub parts : lines ≡ first ++ others
  pub text : List ℕ
  pub on : Bool
  pub answers : Answers says old.answerer first text on new.answerer
  pub wrote : WroteBeginning old.written new.written (old.waits ++ text)

-- what lines lead to, according to how the loop ended
abbrev pub PutsSome :
    {A : Type 0} → Answering A → List (Option (List ℕ)) → List (Option (List ℕ)) → Backlog A
    → Backlog A → Result Bool StreamFault → Type 0
PutsSome answering lines left old new (Ok true) = PutsUntil answering.says lines left old new
PutsSome answering lines left old new (Ok false) = PutAll answering.says lines old new
PutsSome answering lines left old new (Err Memory) = PutFirst answering lines old new
PutsSome answering lines left old new (Err Read) = BrokeOff answering.says lines old new
PutsSome answering lines left old new (Err Write) = BrokeOff answering.says lines old new
PutsSome answering lines left old new (Err Bound) = BrokeOff answering.says lines old new

-- What waited is appended to what was answered, according to how the answering and the write ended.
-- After a failed write nothing more is written.
abbrev pub HasWritten : Result Bool StreamFault → Option (List ℕ) → Option (List ℕ) → List ℕ
    → Result Bool StreamFault → Type 0
HasWritten answered before after waited (Ok on) = (answered ≡ Ok on) × Appends before after waited
HasWritten answered before after waited (Err fault) =
    ((answered ≡ Err fault) × (fault ≡ Memory) × Appends before after waited)
    ⊎ ((answered ≡ Err fault) × (fault ≡ Write) × (after ≡ before))
    ⊎ ((answered ≡ Err Memory) × (fault ≡ Write) × WroteBeginning before after waited)
    ⊎ ((on : Bool) × (answered ≡ Ok on) × (fault ≡ Write) × WroteBeginning before after waited)
