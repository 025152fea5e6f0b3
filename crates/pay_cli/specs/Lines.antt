-- The lines of `check`: what a member makes of each frame of a stream.
use Rattle.std.specs.Prelude.{ℕ, ◌+◌, List, ◌++◌, length, slice_index, slice_set, decimal, codes}
use Rattle.std.specs.Prelude.{Result, Ok, Err, ⊤}
use Rattle.pay_frame.specs.declared.reading.FrameFault.{FrameFault}
use Rattle.pay_frame.specs.declared.body.Kind.{Kind}
use Rattle.pay_frame.specs.declared.body.Kind.TheVariants.{Send, Echo, Ready, Want}
use Rattle.pay_frame.specs.Fault.{fault_number, name_of}
use Rattle.pay_frame.specs.Frame.{FrameFields}
use Rattle.pay_link.specs.declared.opened.LinkFault.{LinkFault}
use Rattle.pay_link.specs.Fronts.{turn}
use Rattle.pay_link.specs.Keys.{KeyFields}
use Rattle.pay_link.specs.Opening.{OpenedFields, judgement}
use Rattle.pay_link.specs.Words.{link_words}
use Rattle.pay_cli.specs.declared.check.Progress.{Progress}

abbrev pub kind_word : Kind → List ℕ
kind_word Send = codes "send"
kind_word Echo = codes "echo"
kind_word Ready = codes "ready"
kind_word Want = codes "want"

-- ` ok KIND from P number M owner A seq S value L`
abbrev pub ok_words : FrameFields → List ℕ
ok_words f =
    codes " ok " ++ kind_word f.body.kind ++ codes " from " ++ decimal f.from
    ++ codes " number " ++ decimal f.number ++ codes " owner " ++ decimal f.body.owner
    ++ codes " seq " ++ decimal f.body.seq ++ codes " value " ++ decimal (length f.body.value)

-- ` want from P number M`
abbrev pub want_words : FrameFields → List ℕ
want_words f = codes " want from " ++ decimal f.from ++ codes " number " ++ decimal f.number

-- ` refused C NAME`, and which number is next
abbrev pub link_refused_words : LinkFault → List ℕ
link_refused_words fault = codes " refused " ++ link_words fault

-- What becomes of a frame: it was authenticated and is the next of its sender, it was authenticated
-- and is a WANT, or it is refused.
pub data Outcome : Type 0 where
  Taken : Outcome
  Wanted : Outcome
  Refused : LinkFault → Outcome

abbrev pub turn_outcome : Result ⊤ LinkFault → Outcome
turn_outcome (Ok _) = Taken
turn_outcome (Err fault) = Refused fault

-- an authenticated frame, if this is the next number of its sender
abbrev pub opened_outcome : ℕ → FrameFields → Kind → Outcome
opened_outcome next f Want = Wanted
opened_outcome next f Send = turn_outcome (turn next f.number)
opened_outcome next f Echo = turn_outcome (turn next f.number)
opened_outcome next f Ready = turn_outcome (turn next f.number)

abbrev pub judged_outcome : ℕ → FrameFields → Result OpenedFields LinkFault → Outcome
judged_outcome next f (Ok opened) = opened_outcome next f f.body.kind
judged_outcome next f (Err fault) = Refused fault

-- what becomes of a frame, if these are the next numbers of all members
abbrev pub check_outcome : KeyFields → List ℕ → FrameFields → Outcome
check_outcome k fronts f = judged_outcome (slice_index fronts f.from) f (judgement k f)

-- what `check` says about a frame, after the number of its line
abbrev pub check_words : FrameFields → Outcome → List ℕ
check_words f Taken = ok_words f
check_words f Wanted = want_words f
check_words f (Refused fault) = link_refused_words fault

-- the line of a frame
unfoldable pub line_of : KeyFields → Progress → FrameFields → List ℕ
line_of k p f = decimal p.line ++ check_words f (check_outcome k p.fronts f) ++ codes "\n"

-- an `ok` frame moves its sender's next number by one, and nothing else does
abbrev pub fronts_after : List ℕ → FrameFields → Outcome → List ℕ
fronts_after fronts f Taken = slice_set fronts f.from (slice_index fronts f.from + 1)
fronts_after fronts f Wanted = fronts
fronts_after fronts f (Refused fault) = fronts

-- what is known after a frame's line
unfoldable pub progress_after : KeyFields → Progress → FrameFields → Progress
progress_after k p f =
    record { fronts = fronts_after p.fronts f (check_outcome k p.fronts f); line = p.line + 1 }

-- `k fault C NAME`
abbrev pub fault_line : ℕ → FrameFault → List ℕ
fault_line line fault =
    decimal line ++ codes " fault " ++ decimal (fault_number fault) ++ codes " " ++ name_of fault
    ++ codes "\n"
