use Rattle.std.proofs.Common.{◌≡◌, ◌≤◌, ◌-◌, List}
use Rattle.std.specs.List.{range_with_len}
use Rattle.pay_world.specs.declared.event.WorldEvent.{WorldEvent}
use Rattle.pay_sim.specs.declared.group.ScriptGroup.{ScriptGroup}
use Rattle.pay_sim.specs.All.{Draws, FeedsMember, InTurn}
use Rattle.pay_sim.specs.Playing.{IsAfter, Leads}
use Rattle.pay_sim.proofs.game.Game.feed.Given as goal

-- what is taken of the others from here on is taken of all from the start on
abbrev pub invariant-loop-from : goal.invariant-loop-from
invariant-loop-from g l = record {
  leads : (c : ScriptGroup) (es : List WorldEvent) → IsAfter c es l.fn.self
      → Leads c l.self (InTurn (λ from. Draws c from l.to) (range_with_len l.from (c.genesis.members - l.from))) (FeedsMember c l.to es);
  end : l.from-end ≡ l.fn.self.members;
  count : l.fn.self.made ≤ l.self.made;
}
