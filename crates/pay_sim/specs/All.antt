-- What the command `all` delivers.
use Rattle.std.specs.Prelude.{◌≡◌, ℕ, ◌<◌, List, [], ◌∷◌, ◌++◌, length, Option, Some, None, Ok, Err}
use Rattle.std.specs.Prelude.{MatchOption}
use Rattle.std.specs.List.{range_with_len}
use Rattle.pay_world.specs.declared.event.WorldEvent.{WorldEvent}
use Rattle.pay_world.specs.declared.event.WorldEvent.TheVariants.{Bring}
use Rattle.pay_world.specs.declared.event.WorldReply.{WorldReply}
use Rattle.pay_sim.specs.declared.group.ScriptGroup.{ScriptGroup}
use Rattle.pay_sim.specs.declared.run.RunStop.{RunStop}
use Rattle.pay_sim.specs.Made.{Makes, next_untaken}

-- Each relation is between the events that were made before, the events that were made after, and
-- what stopped the run in between, if anything did.

-- Member `to` accepts frames of member `from`, one after the other, until nothing of it is left.
pub data Draws (c : ScriptGroup) (from to : ℕ)
    : List WorldEvent → List WorldEvent → Option RunStop → Type 0 where
  Nothing : {es : List WorldEvent} → next_untaken c es from to ≡ None → Draws c from to es es None
  Stopped : {es : List WorldEvent} → (frame : List ℕ) → (stop : RunStop)
      → next_untaken c es from to ≡ Some frame
      → Makes c es (Bring to frame) (Err stop) → Draws c from to es es (Some stop)
  Further : {es last : List WorldEvent} → {stop : Option RunStop} → (frame : List ℕ)
      → (reply : WorldReply)
      → next_untaken c es from to ≡ Some frame → Makes c es (Bring to frame) (Ok reply)
      → Draws c from to (es ++ Bring to frame ∷ []) last stop → Draws c from to es last stop

-- members do this one after the other, up to the first that is stopped
abbrev pub InTurn : (ℕ → List WorldEvent → List WorldEvent → Option RunStop → Type 0) → List ℕ
    → List WorldEvent → List WorldEvent → Option RunStop → Type 0
InTurn does [] es last stop = (last ≡ es) × (stop ≡ None)
InTurn does (i ∷ is) es last stop =
    (mid : List WorldEvent) × (met : Option RunStop) × does i es mid met
    × MatchOption met (InTurn does is mid last stop) (λ s. (last ≡ mid) × (stop ≡ Some s))

-- a member accepts frames of each other member, in the order of their numbers
abbrev pub FeedsMember :
    ScriptGroup → ℕ → List WorldEvent → List WorldEvent → Option RunStop → Type 0
FeedsMember c to = InTurn (λ from. Draws c from to) (range_with_len 0 c.genesis.members)

-- each member accepts frames of all others, in the order of the members' numbers
abbrev pub MakesPass : ScriptGroup → List WorldEvent → List WorldEvent → Option RunStop → Type 0
MakesPass c = InTurn (FeedsMember c) (range_with_len 0 c.genesis.members)

-- The members do this again and again, until nothing was delivered.
pub data BringsAll (c : ScriptGroup)
    : List WorldEvent → List WorldEvent → Option RunStop → Type 0 where
  Enough : {es last : List WorldEvent} → MakesPass c es last None → length last ≡ length es
      → BringsAll c es last None
  Halted : {es last : List WorldEvent} → (stop : RunStop) → MakesPass c es last (Some stop)
      → BringsAll c es last (Some stop)
  Again : {es mid last : List WorldEvent} → {stop : Option RunStop} → MakesPass c es mid None
      → length es < length mid → BringsAll c mid last stop → BringsAll c es last stop
