-- What a script's lines do, and the text that they print.
use Rattle.std.specs.Prelude.{◌≡◌, ◌⊎◌, ℕ, ◌-◌, Bool, true, false, List, [], ◌∷◌, ◌++◌, length}
use Rattle.std.specs.Prelude.{codes, decimal, Option, Some, None, Ok, Err, Result, IfSome}
use Rattle.std.specs.Prelude.{if◌then◌else◌}
use Rattle.std.specs.List.{flat_map, range_with_len}
use Rattle.std.specs.Io.KnownBytes.{Appends, IsAtEnd}
use Rattle.pay_frame.specs.declared.device.StreamFault.{StreamFault}
use Rattle.pay_frame.specs.Device.{WroteBeginning}
use Rattle.pay_frame.specs.Frame.{BodyFields}
use Rattle.pay_member.specs.Book.{book_after}
use Rattle.pay_text.specs.Answers.{Answers}
use Rattle.pay_text.specs.Engine.{Answering, AnswersFirst}
use Rattle.pay_text.specs.Lines.{line_feed, lines_within}
use Rattle.pay_world.specs.declared.event.WorldEvent.{WorldEvent}
use Rattle.pay_world.specs.declared.event.WorldEvent.TheVariants as event
use Rattle.pay_world.specs.declared.event.WorldReply.{WorldReply}
use Rattle.pay_world.specs.Answer.{one_more, receiver}
use Rattle.pay_world.specs.Convergence.{AllTaken}
use Rattle.pay_world.specs.Liars.{setting_of}
use Rattle.pay_sim.specs.declared.command.ScriptCommand.{ScriptCommand}
use Rattle.pay_sim.specs.declared.command.ScriptCommand.TheVariants.{Ask, Bring, Lie, Raw, All}
use Rattle.pay_sim.specs.declared.command.ScriptCommand.TheVariants.{Show}
use Rattle.pay_sim.specs.declared.group.ScriptGroup.{ScriptGroup}
use Rattle.pay_sim.specs.declared.run.TheConstants.{LONGEST_LINE}
use Rattle.pay_sim.specs.declared.run.SimEnd.{SimEnd}
use Rattle.pay_sim.specs.declared.run.SimEnd.TheVariants as end
use Rattle.pay_sim.specs.declared.run.RunStop.{RunStop}
use Rattle.pay_sim.specs.declared.run.RunStop.TheVariants.{BadLine, Forged, Limit}
use Rattle.pay_sim.specs.Commands.{script_command_in}
use Rattle.pay_sim.specs.Words.{member_words, reply_line}
use Rattle.pay_sim.specs.TestFrames.{test_frame}
use Rattle.pay_sim.specs.Group.{script_group_in}
use Rattle.pay_sim.specs.Made.{Makes, frame_for, history_at, is_there, next_number}
use Rattle.pay_sim.specs.All.{BringsAll}

abbrev pub with_feed : List ℕ → List ℕ
with_feed words = words ++ line_feed ∷ []

-- ---- what a command does

-- What a line does. It prints this, and all events are then these, or it stops the run.
pub data Told : Type 0 where
  Prints : List ℕ → List WorldEvent → Told
  Stops : RunStop → Told

-- an event is made, and its reply printed
abbrev pub Tells : ScriptGroup → List WorldEvent → WorldEvent → Told → Type 0
Tells c es e (Prints text last) =
    (reply : WorldReply) × Makes c es e (Ok reply) × (text ≡ reply_line (receiver e) reply)
    × (last ≡ es ++ e ∷ [])
Tells c es e (Stops stop) = Makes c es e (Err stop)

-- this frame is delivered, if it exists
abbrev pub TellsSent : ScriptGroup → List WorldEvent → ℕ → Option (List ℕ) → Told → Type 0
TellsSent c es to None told = told ≡ Prints (with_feed (codes "absent")) es
TellsSent c es to (Some frame) told = Tells c es (event.Bring to frame) told

-- no bytes are delivered to a faulty member, or if there is no member
abbrev pub TellsBring : ScriptGroup → List WorldEvent → ℕ → ℕ → ℕ → Told → Type 0
TellsBring c es from to number told = TellsSent c es to (frame_for c es from to number) told

-- the number in a command for a forged frame, or the next one
abbrev pub lie_number : ScriptGroup → List WorldEvent → ℕ → ℕ → Option ℕ → ℕ
lie_number c es from to (Some number) = number
lie_number c es from to None = next_number c es from to

abbrev pub lie_frame : ScriptGroup → List WorldEvent → ℕ → ℕ → Option ℕ → BodyFields → List ℕ
lie_frame c es from to number body = test_frame from to (lie_number c es from to number) body

-- one more line, if each member that isn't faulty accepted all that the others sent
abbrev pub IsConverged : ScriptGroup → List WorldEvent → List ℕ → Type 0
IsConverged c es words =
    (AllTaken (setting_of c.liars) (history_at c es) × (words ≡ with_feed (codes "converged")))
    ⊎ (¬ (AllTaken (setting_of c.liars) (history_at c es)) × (words ≡ []))

-- all is delivered, and the count of frames is printed
abbrev pub TellsAll : ScriptGroup → List WorldEvent → Told → Type 0
TellsAll c es (Prints text last) =
    BringsAll c es last None
    × ((words : List ℕ) × IsConverged c last words
    × (text ≡ codes "brought " ++ with_feed (decimal (length last - length es)) ++ words))
TellsAll c es (Stops stop) = (last : List WorldEvent) × BringsAll c es last (Some stop)

-- the ledger of a member that exists
abbrev pub shown_member : ScriptGroup → List WorldEvent → ℕ → List ℕ
shown_member c es i =
    if is_there c i
    then with_feed (member_words c.genesis.members i (book_after c.genesis i (history_at c es i)))
    else []

-- the ledgers of all members, in the order of their numbers
unfoldable pub show_text : ScriptGroup → List WorldEvent → List ℕ
show_text c es = flat_map (shown_member c es) (range_with_len 0 c.genesis.members)

abbrev pub Obeys : ScriptGroup → List WorldEvent → ScriptCommand → Told → Type 0
Obeys c es (Ask member value) told = Tells c es (event.Ask member value) told
Obeys c es (Bring from to number) told = TellsBring c es from to number told
Obeys c es (Lie from to number body) told =
    Tells c es (event.Bring to (lie_frame c es from to number body)) told
Obeys c es (Raw to bytes) told = Tells c es (event.Bring to bytes) told
Obeys c es All told = TellsAll c es told
Obeys c es Show told = told ≡ Prints (show_text c es) es

abbrev pub CommandTells : ScriptGroup → List WorldEvent → Option ScriptCommand → Told → Type 0
CommandTells c es None told = told ≡ Stops BadLine
CommandTells c es (Some command) told = Obeys c es command told

-- a command's line; an empty one does nothing
abbrev pub LineTells : ScriptGroup → List WorldEvent → List ℕ → Told → Type 0
LineTells c es [] told = told ≡ Prints [] es
LineTells c es (b ∷ line) told = CommandTells c es (script_command_in (b ∷ line)) told

-- ---- the moments of a script

-- The count of lines that were read, the group of the first line, the events that were made, and
-- what stopped the run, if anything did.
pub record Moment : Type 0 where
  pub lines : ℕ
  pub group : Option ScriptGroup
  pub events : List WorldEvent
  pub stopped : Option RunStop

abbrev pub start : Moment
start = record { lines = 0; group = None; events = []; stopped = None }

-- how a run ends
abbrev pub end_of : Option RunStop → SimEnd
end_of None = end.Done
end_of (Some BadLine) = end.BadLine
end_of (Some (Forged k)) = end.Forged
end_of (Some Limit) = end.Limit

-- the last line of a run that is stopped
abbrev pub last_words : RunStop → ℕ → List ℕ
last_words BadLine line = codes "bad line " ++ decimal line
last_words (Forged k) line = codes "forged " ++ decimal k
last_words Limit line = codes "limit"

-- What a line does, and the group that the script then has: the first line contains it, and each
-- other line is a command. A line over the bound is neither.

abbrev pub Founds : List WorldEvent → Option ScriptGroup → Option ScriptGroup → Told → Type 0
Founds es None after told = (told ≡ Stops BadLine) × (after ≡ None)
Founds es (Some c) after told = (told ≡ Prints [] es) × (after ≡ Some c)

abbrev pub Does : Option ScriptGroup → List WorldEvent → Option (List ℕ) → Option ScriptGroup → Told
    → Type 0
Does group es None after told = (told ≡ Stops BadLine) × (after ≡ group)
Does None es (Some line) after told = Founds es (script_group_in line) after told
Does (Some c) es (Some line) after told = LineTells c es line told × (after ≡ Some c)

-- The line prints this text, a line may follow or not, and the script has come to this moment.
abbrev pub Continues : Moment → Option ScriptGroup → Told → List ℕ → Bool → Moment → Type 0
Continues old group (Prints words last) text on new =
    (text ≡ words) × (on ≡ true)
    × (new ≡ record old { lines = one_more old.lines; group = group; events = last })
Continues old group (Stops stop) text on new =
    (text ≡ with_feed (last_words stop (one_more old.lines))) × (on ≡ false)
    × (new ≡ record old { lines = one_more old.lines; group = group; stopped = Some stop })

abbrev pub PlaysLine : Moment → Option (List ℕ) → List ℕ → Bool → Moment → Type 0
PlaysLine old line text on new =
    (group : Option ScriptGroup) × (told : Told) × Does old.group old.events line group told
    × Continues old group told text on new

-- ---- the whole run

-- A script without lines has a bad first line.
abbrev pub no_line : List ℕ
no_line = with_feed (codes "bad line 1")

-- The run of a script prints this text, and has this end.
abbrev pub IsRun : List ℕ → List ℕ → SimEnd → Type 0
IsRun [] text ended = (text ≡ no_line) × (ended ≡ end.BadLine)
IsRun (b ∷ script) text ended =
    (on : Bool) × (last : Moment)
    × Answers PlaysLine start (lines_within LONGEST_LINE (b ∷ script)) text on last
    × (ended ≡ end_of last.stopped)

-- how a script's lines are answered; it is unchanged if memory runs out
abbrev pub script_answering : Answering Moment
script_answering = record { says = PlaysLine; gives_up = λ mid last. last ≡ mid }

-- The run was broken off: what was written is a prefix of the text that a script's first lines
-- print.
abbrev pub IsRunBegun : List ℕ → Option (List ℕ) → Option (List ℕ) → Type 0
IsRunBegun [] before after = WroteBeginning before after no_line
IsRunBegun (b ∷ script) before after =
    (n : Moment)
    × AnswersFirst script_answering (lines_within LONGEST_LINE (b ∷ script))
    (record { answerer = start; written = before }) (record { answerer = n; written = after })

-- What the loop writes, if its input is known. It ends as done only at the input's end.
abbrev pub WritesRun : Option (List ℕ) → Option (List ℕ) → Option (List ℕ) → Option (List ℕ)
    → Result SimEnd StreamFault → Type 0
WritesRun input left before after (Ok ended) =
    IfSome input (λ script. (text : List ℕ) × IsRun script text ended × Appends before after text
    × (ended ≡ end.Done → IsAtEnd left))
WritesRun input left before after (Err fault) =
    IfSome input (λ script. IsRunBegun script before after)
