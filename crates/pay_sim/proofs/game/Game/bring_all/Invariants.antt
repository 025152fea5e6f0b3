use Rattle.std.proofs.Common.{◌≤◌, ◌-◌, List}
use Rattle.pay_world.specs.declared.event.WorldEvent.{WorldEvent}
use Rattle.pay_sim.specs.declared.group.ScriptGroup.{ScriptGroup}
use Rattle.pay_sim.specs.declared.game.TheConstants.{MOST_EVENTS}
use Rattle.pay_sim.specs.All.{BringsAll}
use Rattle.pay_sim.specs.Playing.{IsAfter, Leads}
use Rattle.pay_sim.proofs.game.Game.bring_all.Given as goal

-- what is brought from here on is brought from the start on
abbrev pub invariant-passes : goal.invariant-passes
invariant-passes g l = record {
  leads : (c : ScriptGroup) (es : List WorldEvent) → IsAfter c es l.fn.self → Leads c l.self (BringsAll c) (BringsAll c es);
  count : l.fn.self.made ≤ l.self.made;
}

abbrev pub decreases-passes : goal.decreases-passes
decreases-passes g l = MOST_EVENTS - l.self.made
