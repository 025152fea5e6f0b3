use Rattle.std.proofs.Common.{◌≡◌, ◌≤◌, ◌++◌, List}
use Rattle.std.specs.List.{flat_map, range_with_len}
use Rattle.pay_world.specs.declared.event.WorldEvent.{WorldEvent}
use Rattle.pay_sim.specs.declared.group.ScriptGroup.{ScriptGroup}
use Rattle.pay_sim.specs.Script.{shown_member}
use Rattle.pay_sim.specs.Playing.{IsAfter}
use Rattle.pay_sim.proofs.game.Game.show.Given as goal

-- the books so far
abbrev pub invariant-loop-number : goal.invariant-loop-number
invariant-loop-number g l = record {
  books : (c : ScriptGroup) (es : List WorldEvent) → IsAfter c es l.fn.self → l.out.items ≡ l.fn.out.items ++ flat_map (shown_member c es) (range_with_len 0 l.number);
  end : l.number-end ≡ l.fn.self.members;
  within : l.number ≤ l.number-end;
}
