use Rattle.std.proofs.Common.{◌≤◌, ◌-◌, length}
use Rattle.pay_log.specs.declared.chunk.TheConstants.{MOST_PAYLOAD}
use Rattle.pay_durable.specs.Following.{HasGathered}
use Rattle.pay_durable.proofs.following.push_missing.Given as goal

abbrev pub invariant-loop-count : goal.invariant-loop-count
invariant-loop-count l = record {
  gathered : HasGathered l.ids l.history l.fn.count l.count l.fn.pending.items l.pending.items;
  short : length l.pending.items ≤ MOST_PAYLOAD;
}

abbrev pub decreases-loop-count : goal.decreases-loop-count
decreases-loop-count l = length l.history - l.count
