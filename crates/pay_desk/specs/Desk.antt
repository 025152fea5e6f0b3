-- A desk over all lines of a text.
use Rattle.std.specs.Prelude.{◌≡◌, ℕ, Bool, true, List, Option, Some, None, Result, Ok, Err, IfSome}
use Rattle.std.specs.Prelude.{◌⊎◌}
use Rattle.std.specs.Io.KnownBytes.{IsAtEnd}
use Rattle.pay_frame.specs.declared.device.StreamFault.{StreamFault}
use Rattle.pay_text.specs.Lines.{lines_within}
use Rattle.pay_text.specs.Engine.{Answering, AnswersAll, AnswersFirst, Dialogue}
use Rattle.pay_desk.specs.declared.command.Command.{Command}
use Rattle.pay_desk.specs.declared.command.TheConstants.{MOST_LINE}
use Rattle.pay_desk.specs.declared.desk.Desk.{Desk}
use Rattle.pay_desk.specs.declared.fault.DeskFault.TheVariants.{Memory}
use Rattle.pay_desk.specs.Answers.{AnswersCommand, GaveUp}
use Rattle.pay_desk.specs.Calls.{Exchange}
use Rattle.pay_desk.specs.Commands.{command_in}
use Rattle.pay_desk.specs.Words.{refused_words}

-- what a line requests; a line over the bound, about which nothing else is known, is no command
abbrev pub command_at : Option (List ℕ) → Option Command
command_at None = None
command_at (Some line) = command_in line

-- memory ran out, and the answer says so
pub record TellsMemory {T : Type 0} (says : T → Exchange → T → Type 0) (old : Desk T)
    (text : List ℕ) (new : Desk T) : Type 0 where
  pub words : text ≡ refused_words Memory
  pub gave_up : GaveUp says old new

-- what one line does to a desk: its answer, or that memory ran out; a line may always follow
pub record DeskSays {T : Type 0} (says : T → Exchange → T → Type 0) (old : Desk T)
    (line : Option (List ℕ)) (text : List ℕ) (goes_on : Bool) (new : Desk T) : Type 0 where
  pub on : goes_on ≡ true
  pub answer : AnswersCommand says (command_at line) old text new ⊎ TellsMemory says old text new

-- how a desk answers lines; it never gives up, since it answers that memory ran out
abbrev pub desk_answering : {T : Type 0} → (T → Exchange → T → Type 0) → Answering (Desk T)
desk_answering says = record { says = DeskSays says; gives_up = λ mid last. last ≡ mid }

-- What is written, according to how the loop ended: the answers to all lines of the input, at its
-- end. Otherwise it is a prefix of them, and the desk is as the answered lines left it.
abbrev pub WritesAnswers :
    {T : Type 0} → (T → Exchange → T → Type 0) → Dialogue (Desk T) → Dialogue (Desk T)
    → Option (List ℕ) → Option (List ℕ) → Result Unit StreamFault → Type 0
WritesAnswers says old new input left (Ok done) =
    IfSome input
    (λ bytes. AnswersAll (DeskSays says) (lines_within MOST_LINE bytes) old new true
    × IsAtEnd left)
WritesAnswers says old new input left (Err fault) =
    IfSome input
    (λ bytes. AnswersFirst (desk_answering says) (lines_within MOST_LINE bytes) old new)
