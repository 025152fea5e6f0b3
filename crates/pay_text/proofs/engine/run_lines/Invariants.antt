use Rattle.std.proofs.Common.{◌≡◌, [], ◌+◌, ◌≤◌}
use Rattle.pay_frame.specs.Device.{RoseBy}
use Rattle.pay_text.specs.Engine.{IsGoing}
use Rattle.pay_text.proofs.Answering.{intake, said_by}
use Rattle.pay_text.proofs.engine.run_lines.Given as goal

-- what was read and answered so far, in just so many calls, of which none failed
abbrev pub invariant-loop : goal.invariant-loop
invariant-loop g l =
    let remaining = g.R.Input.remaining in
    let contents = g.W.Output.contents in
    record {
      going : IsGoing g.A.Answerer.says l.bound l.cutter.line (intake (remaining l.fn.reader) (remaining l.reader) l.counter) (said_by l.fn.answerer (contents l.fn.writer)) (said_by l.answerer (contents l.writer));
      bound : l.cutter.bound ≡ l.bound;
      empty : l.outbox ≡ [];
      calls : RoseBy l.counter (g.R.Input.call_count l.fn.reader) (g.R.Input.call_count l.reader);
      most : g.R.Input.call_count l.reader ≤ g.R.Input.call_count l.fn.reader + l.counter;
      reads : g.R.Input.failure_count l.reader ≡ g.R.Input.failure_count l.fn.reader;
      writes : g.W.Output.failure_count l.writer ≡ g.W.Output.failure_count l.fn.writer;
    }
