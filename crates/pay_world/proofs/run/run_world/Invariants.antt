use Rattle.std.proofs.Common.{◌≡◌, ◌++◌, length}
use Rattle.std.specs.Vec.Iter.{into_iter_items, into_iter_len}
use Rattle.std.proofs.Common.{◌+◌, ◌<◌, ◌^◌}
use Rattle.pay_world.specs.Run.{IsWorldAfter}
use Rattle.pay_world.proofs.run.run_world.Given as goal

-- the world after the events so far, and what is left of them
abbrev pub invariant-loop-event : goal.invariant-loop-event
invariant-loop-event g l = record {
  after : IsWorldAfter l.genesis l.keys l.liars l.yielded l.world;
  items : l.yielded ++ into_iter_items l.event-iterator ≡ l.fn.events.items;
  left : into_iter_len l.event-iterator ≡ length (into_iter_items l.event-iterator);
  few : length l.yielded + into_iter_len l.event-iterator < 2 ^ 64;
}
