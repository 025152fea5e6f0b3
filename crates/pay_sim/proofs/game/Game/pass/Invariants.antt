use Rattle.std.proofs.Common.{◌≡◌, ◌≤◌, ◌-◌, List}
use Rattle.std.specs.List.{range_with_len}
use Rattle.pay_world.specs.declared.event.WorldEvent.{WorldEvent}
use Rattle.pay_sim.specs.declared.group.ScriptGroup.{ScriptGroup}
use Rattle.pay_sim.specs.All.{FeedsMember, MakesPass, InTurn}
use Rattle.pay_sim.specs.Playing.{IsAfter, Leads}
use Rattle.pay_sim.proofs.game.Game.pass.Given as goal

-- what the others take from here on all take from the start on
abbrev pub invariant-loop-to : goal.invariant-loop-to
invariant-loop-to g l = record {
  leads : (c : ScriptGroup) (es : List WorldEvent) → IsAfter c es l.fn.self
      → Leads c l.self (InTurn (FeedsMember c) (range_with_len l.to (c.genesis.members - l.to))) (MakesPass c es);
  end : l.to-end ≡ l.fn.self.members;
  count : l.fn.self.made ≤ l.self.made;
}
