use Rattle.std.proofs.Common.{rules}
use Rattle.pay_frame.proofs.Written.{appends_further}
use Rattle.pay_frame.proofs.device.write_all.Goals as goal

pub loop-written-preserved : goal.loop-written-preserved
loop-written-preserved g c =
    let contents = g.W.Output.contents in
    record {
      within = search rules;
      appended = appends_further (contents c.args.writer.now) (contents c.loop-written.writer) (contents c.write.new.self) c.loop-written.written c.in_ok-written.field-0 c.args.bytes.now c.loop-written.invariant.appended c.in_ok-written.ensures.bytes;
      none_failed = search rules;
    }
