-- Statements about scripts and their runs. Each is proved as a public law.
use Rattle.std.specs.Prelude.{◌≡◌, ◌⊎◌, ℕ, List, ◌++◌, slice_get, take, Option, Some, None, Ok}
use Rattle.pay_link.specs.Genesis.{IsGenesis}
use Rattle.pay_member.specs.declared.bringing.Outcome.TheVariants.{Took}
use Rattle.pay_member.specs.declared.event.Took as took
use Rattle.pay_world.specs.declared.event.WorldEvent.{WorldEvent}
use Rattle.pay_world.specs.declared.event.WorldReply.TheVariants.{Brought}
use Rattle.pay_world.specs.Liars.{AreLiars, AreLiarsOf}
use Rattle.pay_sim.specs.declared.group.ScriptGroup.{ScriptGroup}
use Rattle.pay_sim.specs.declared.run.SimEnd.{SimEnd}
use Rattle.pay_sim.specs.declared.run.RunStop.{RunStop}
use Rattle.pay_sim.specs.declared.run.RunStop.TheVariants.{Limit}
use Rattle.pay_sim.specs.All.{BringsAll}
use Rattle.pay_sim.specs.Group.{script_group_in}
use Rattle.pay_sim.specs.Made.{Makes}
use Rattle.pay_sim.specs.Script.{IsRun}

-- ---- a script's text

-- A script prints at most one text, and ends in one way.
abbrev pub OneRun : Type 0
OneRun =
    (script text other : List ℕ) (ended end : SimEnd) → IsRun script text ended
    → IsRun script other end
    → (text ≡ other) × (ended ≡ end)

-- Each script prints a text.
abbrev pub EachRuns : Type 0
EachRuns = (script : List ℕ) → (text : List ℕ) × (ended : SimEnd) × IsRun script text ended

-- ---- its group

-- within the limits of a genesis and of its faulty members
pub record IsGroup (c : ScriptGroup) : Type 0 where
  pub genesis : IsGenesis c.genesis
  pub liars : AreLiars c.liars
  pub of : AreLiarsOf c.genesis c.liars

abbrev pub FirstLineIsGroup : Type 0
FirstLineIsGroup = (line : List ℕ) (c : ScriptGroup) → script_group_in line ≡ Some c → IsGroup c

-- ---- what `all` delivers

-- After these events those are delivered, and each is a frame that its receiver accepts.
pub record AreTaken (c : ScriptGroup) (es brought : List WorldEvent) : Type 0 where
  pub each :
      (k : ℕ) (e : WorldEvent) → slice_get brought k ≡ Some e
      → (t : took.Took) × Makes c (es ++ take k brought) e (Ok (Brought (Took t)))

-- All that `all` delivers is accepted, and only the limit stops it.
abbrev pub AllIsTaken : Type 0
AllIsTaken =
    (c : ScriptGroup) (es last : List WorldEvent) (stop : Option RunStop) → IsGroup c
    → BringsAll c es last stop
    → (brought : List WorldEvent) × (last ≡ es ++ brought) × AreTaken c es brought
    × ((stop ≡ None) ⊎ (stop ≡ Some Limit))
