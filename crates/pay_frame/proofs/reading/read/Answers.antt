use Rattle.pay_frame.specs.Lent.{fields_of}
use Rattle.pay_frame.specs.Places.{IsSizeOf}
use Rattle.pay_frame.proofs.Answering.{frame_from, size_from}
use Rattle.pay_frame.proofs.reading.read.Goals as goal

pub returns-in-Some : goal.returns-in-Some
returns-in-Some c =
    let size = c.in-Some.size in
    let found : IsSizeOf c.args.bytes.now size = rw c.in-Some.is at c.in_ok-size.ensures.frame in
    record {
      reading = (
        frame_from c.args.bytes.now size (fields_of c.frame_of.result) c.frame_of.result.is_frame c.frame_of.ensures,
        size_from c.args.bytes.now size (fields_of c.frame_of.result) c.frame_of.ensures found.within,
      );
    }
