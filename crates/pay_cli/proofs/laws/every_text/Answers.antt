use Rattle.std.proofs.Common.{refl}
use Rattle.pay_frame.specs.Exact.{text_from}
use Rattle.pay_cli.specs.CheckText.{checking, at_start, known_after}
use Rattle.pay_cli.proofs.laws.every_text.Goals as goal

pub returns : goal.returns
returns c = record {
  law = λ q bytes is.
      let stream = c.every_stream.ensures.law bytes is in
      record {
        text = text_from (checking q) (at_start q.keys) stream.frames stream.ending;
        ending = stream.ending;
        is = record {
          known = known_after q (at_start q.keys) stream.frames;
          is = record { frames = stream.frames; stream = stream.is; texts = refl; state = refl };
        };
      };
}
