use Rattle.std.proofs.Common.{List, ℕ, ◌≤◌, ◌+◌, ◌-◌, drop}
use Rattle.pay_log.specs.declared.chunk.TheConstants.{MOST_PLACE}
use Rattle.pay_log.specs.Device.{IsUnchanged}
use Rattle.pay_log.specs.Recovery.{HasReadTo}
use Rattle.pay_log.specs.Sinks.{TakesAll}
use Rattle.pay_log.proofs.reading.read_chunks.Given as goal

abbrev pub invariant-loop-chunk : goal.invariant-loop-chunk
invariant-loop-chunk g l = record {
  room : l.len ≤ MOST_PLACE + 33554432;
  fewer : l.count ≤ l.len;
  fed : (ps : List (List ℕ)) × TakesAll g.S.Sink.takes l.fn.sink l.sink ps;
  unchanged : g.D.Device.is_known l.fn.device
      → IsUnchanged g.D.Device.is_known g.D.Device.seen g.D.Device.may_leave g.D.Device.moment g.D.Device.left_since l.fn.device l.device;
  read : g.D.Device.is_known l.fn.device
      → HasReadTo g.S.Sink.takes l.key (drop 75 (g.D.Device.seen l.fn.device)) l.fn.sink l.sink l.len l.count;
}

abbrev pub decreases-loop-chunk : goal.decreases-loop-chunk
decreases-loop-chunk g l = MOST_PLACE + 67108864 - l.len
