use Rattle.std.proofs.Common.{◌-◌, ◌≤◌, length}
use Rattle.pay_durable.specs.Following.{HasSameIds}
use Rattle.pay_durable.proofs.kept.fill_to.Given as goal

abbrev pub invariant-loop-ids : goal.invariant-loop-ids
invariant-loop-ids l = record {
  up_to : length l.ids.items ≤ l.seq;
  same : HasSameIds l.fn.ids.items l.ids.items;
}

abbrev pub decreases-loop-ids : goal.decreases-loop-ids
decreases-loop-ids l = l.seq - length l.ids.items
