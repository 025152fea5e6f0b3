use Rattle.std.proofs.Common.{◌≤◌, ◌-◌, List}
use Rattle.pay_world.specs.declared.event.WorldEvent.{WorldEvent}
use Rattle.pay_sim.specs.declared.group.ScriptGroup.{ScriptGroup}
use Rattle.pay_sim.specs.declared.game.TheConstants.{MOST_EVENTS}
use Rattle.pay_sim.specs.All.{Draws}
use Rattle.pay_sim.specs.Playing.{IsAfter, Leads}
use Rattle.pay_sim.proofs.game.Game.draw.Given as goal

-- what is drawn from here on is drawn from the start on
abbrev pub invariant-frames : goal.invariant-frames
invariant-frames g l = record {
  leads : (c : ScriptGroup) (es : List WorldEvent) → IsAfter c es l.fn.self → Leads c l.self (Draws c l.from l.to) (Draws c l.from l.to es);
  count : l.fn.self.made ≤ l.self.made;
}

abbrev pub decreases-frames : goal.decreases-frames
decreases-frames g l = MOST_EVENTS - l.self.made
