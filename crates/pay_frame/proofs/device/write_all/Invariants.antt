use Rattle.std.proofs.Common.{length, take, ◌-◌, ◌≡◌, ◌≤◌}
use Rattle.std.specs.Io.KnownBytes.{Appends}
use Rattle.pay_frame.proofs.device.write_all.Given as goal

-- what went out so far
abbrev pub invariant-loop-written : goal.invariant-loop-written
invariant-loop-written g l =
    let contents = g.W.Output.contents in
    let failures = g.W.Output.failure_count in
    record {
      within : l.written ≤ length l.bytes;
      appended : Appends (contents l.fn.writer) (contents l.writer) (take l.written l.bytes);
      none_failed : failures l.writer ≡ failures l.fn.writer;
    }

abbrev pub decreases-loop-written : goal.decreases-loop-written
decreases-loop-written g l = length l.bytes - l.written
