use Rattle.std.proofs.Common.{◌≡◌, ◌+◌, ◌≤◌, []}
use Rattle.pay_frame.specs.Device.{RoseBy}
use Rattle.pay_frame.specs.declared.limits.TheConstants.{READ_ROOM}
use Rattle.pay_frame.specs.Reading.{IsProperBeginning}
use Rattle.pay_frame.specs.Handling.{InProgress}
use Rattle.pay_frame.proofs.Handlings.{stage_at}
use Rattle.pay_frame.proofs.engine.handle_stream.Given as goal

-- what was read and handled so far, in just so many calls, of which none failed
abbrev pub invariant-loop : goal.invariant-loop
invariant-loop g l =
    let remaining = g.In.Input.remaining in
    let contents = g.Out.Output.contents in
    record {
      handling : InProgress (g.H.FrameHandler.handling l.handler) (record { first = l.first; state = l.fn.state; input = remaining l.fn.reader; before = contents l.fn.writer }) (stage_at l.state (remaining l.reader) (contents l.writer)) l.held.bytes [] l.counter;
      begins : IsProperBeginning l.held.bytes;
      room : l.held.room ≡ READ_ROOM;
      calls : RoseBy l.counter (g.In.Input.call_count l.fn.reader) (g.In.Input.call_count l.reader);
      most : g.In.Input.call_count l.reader ≤ g.In.Input.call_count l.fn.reader + l.counter;
      reads : g.In.Input.failure_count l.reader ≡ g.In.Input.failure_count l.fn.reader;
      writes : g.Out.Output.failure_count l.writer ≡ g.Out.Output.failure_count l.fn.writer;
    }
