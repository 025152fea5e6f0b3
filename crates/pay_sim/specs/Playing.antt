-- What holds while a script is played: the world is that after the events that were made.
use Rattle.std.specs.Prelude.{◌≡◌, ℕ, ◌<◌, Bool, true, false, List, [], ◌∷◌, ◌++◌, length, Option}
use Rattle.std.specs.Prelude.{Some, None, Result, Ok, Err, ⊤}
use Rattle.pay_member.specs.Member.{MemberFields}
use Rattle.pay_world.specs.declared.event.WorldEvent.{WorldEvent}
use Rattle.pay_world.specs.declared.event.WorldReply.{WorldReply}
use Rattle.pay_world.specs.World.{WorldFields, member_in}
use Rattle.pay_world.specs.Run.{IsWorldAfter}
use Rattle.pay_world.specs.GroupKeys.{group_test_keys}
use Rattle.pay_sim.specs.declared.group.ScriptGroup.{ScriptGroup}
use Rattle.pay_sim.specs.declared.run.Halt.{Halt}
use Rattle.pay_sim.specs.declared.run.Halt.TheVariants as halt
use Rattle.pay_sim.specs.declared.run.RunStop.{RunStop}
use Rattle.pay_sim.specs.declared.run.RunStop.TheVariants.{BadLine}
use Rattle.pay_sim.specs.Group.{script_group_in}
use Rattle.pay_sim.specs.Made.{Makes}
use Rattle.pay_sim.specs.Script.{Told, Prints, Stops, Moment, Does, PlaysLine}

-- ---- in a world

-- a world, how many members its group has, and how many events were made
pub record GameFields : Type 0 where
  pub world : WorldFields
  pub members : ℕ
  pub made : ℕ

-- The game is the world of this group after these events.
pub record IsAfter (c : ScriptGroup) (es : List WorldEvent) (g : GameFields) : Type 0 where
  pub after : IsWorldAfter c.genesis (group_test_keys c.genesis.members) c.liars es g.world
  pub each : (i : ℕ) (m : MemberFields) → member_in g.world i ≡ Some m → m.genesis ≡ c.genesis
  pub members : g.members ≡ c.genesis.members
  pub few : c.genesis.members < 256
  pub made : g.made ≡ length es

-- The game is the world of some group after some events, so all its members have the test keys.
pub record IsGame (g : GameFields) : Type 0 where
  pub group : ScriptGroup
  pub events : List WorldEvent
  pub behind : IsAfter group events g

-- one more event was made, or not
abbrev pub IsMade : ScriptGroup → List WorldEvent → WorldEvent → GameFields → Result WorldReply Halt
    → Type 0
IsMade c es e new (Ok reply) = Makes c es e (Ok reply) × IsAfter c (es ++ e ∷ []) new
IsMade c es e new (Err (halt.Stop stop)) = Makes c es e (Err stop)
IsMade c es e new (Err halt.Memory) = Unit {0}

-- a command was done, and its text is appended to what stands there
abbrev pub IsDone : (Told → Type 0) → ScriptGroup → List ℕ → List ℕ → GameFields → Result ⊤ Halt
    → Type 0
IsDone does c before after new (Ok _) =
    (text : List ℕ) × (last : List WorldEvent) × does (Prints text last) × (after ≡ before ++ text)
    × IsAfter c last new
IsDone does c before after new (Err (halt.Stop stop)) = does (Stops stop)
IsDone does c before after new (Err halt.Memory) = Unit {0}

-- frames were delivered
abbrev pub HasBrought : (List WorldEvent → Option RunStop → Type 0) → ScriptGroup → GameFields
    → Result ⊤ Halt → Type 0
HasBrought does c new (Ok _) = (last : List WorldEvent) × does last None × IsAfter c last new
HasBrought does c new (Err (halt.Stop stop)) = (last : List WorldEvent) × does last (Some stop)
HasBrought does c new (Err halt.Memory) = Unit {0}

-- what the one relation says from the events of this moment on, the other says
abbrev pub Leads : ScriptGroup → GameFields
    → (List WorldEvent → List WorldEvent → Option RunStop → Type 0)
    → (List WorldEvent → Option RunStop → Type 0) → Type 0
Leads c now rest whole =
    (mid : List WorldEvent) × IsAfter c mid now
    × ((last : List WorldEvent) (stop : Option RunStop) → rest mid last stop → whole last stop)

-- ---- line by line

pub record PlayFields : Type 0 where
  pub lines : ℕ
  pub game : Option GameFields
  pub stop : Option RunStop

abbrev pub IsGameAt : Option GameFields → Option ScriptGroup → List WorldEvent → Type 0
IsGameAt None None es = es ≡ []
IsGameAt None (Some c) es = ⊥
IsGameAt (Some g) None es = ⊥
IsGameAt (Some g) (Some c) es = IsAfter c es g

-- a script that continues has come to this moment
pub record IsPlaying (p : PlayFields) (m : Moment) : Type 0 where
  pub lines : p.lines ≡ m.lines
  pub stop : p.stop ≡ m.stopped
  pub game : IsGameAt p.game m.group m.events

-- a script that is stopped has come to this moment
pub record IsStopped (p : PlayFields) (m : Moment) : Type 0 where
  pub lines : p.lines ≡ m.lines
  pub stop : p.stop ≡ m.stopped

abbrev pub IsAt : Bool → PlayFields → Moment → Type 0
IsAt true p m = IsPlaying p m
IsAt false p m = IsStopped p m

-- the world of a script's first line, before any event
abbrev pub IsFounded : List ℕ → Result GameFields Halt → Type 0
IsFounded line (Ok g) = (c : ScriptGroup) × (script_group_in line ≡ Some c) × IsAfter c [] g
IsFounded line (Err (halt.Stop stop)) = (stop ≡ BadLine) × (script_group_in line ≡ None)
IsFounded line (Err halt.Memory) = Unit {0}

-- what a line does if the script has come to this group and these events
abbrev pub IsRead : Option ScriptGroup → List WorldEvent → Option (List ℕ) → List ℕ → List ℕ
    → Option GameFields → Result ⊤ Halt → Type 0
IsRead group es line before after new (Ok _) =
    (text : List ℕ) × (then : Option ScriptGroup) × (last : List WorldEvent)
    × Does group es line then (Prints text last) × (after ≡ before ++ text) × IsGameAt new then last
IsRead group es line before after new (Err (halt.Stop stop)) =
    (then : Option ScriptGroup) × Does group es line then (Stops stop)
IsRead group es line before after new (Err halt.Memory) = Unit {0}

-- A line is answered as a script's is, whatever moment the script has come to.
abbrev pub IsPlayAnswer : PlayFields → Option (List ℕ) → List ℕ → Bool → PlayFields → Type 0
IsPlayAnswer old line text on new =
    (m : Moment) → IsPlaying old m → (n : Moment) × PlaysLine m line text on n × IsAt on new n

-- If memory runs out a script ends for good, and its world is dropped, so nothing is said about
-- what it became.
abbrev pub MayBeAny : PlayFields → PlayFields → Type 0
MayBeAny old new = Unit {0}
