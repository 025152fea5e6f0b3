use Rattle.std.proofs.Common.{◌≡◌, List, Option, sym, ◌∙◌, ap}
use Rattle.pay_frame.specs.declared.reading.FrameFault.{FrameFault}
use Rattle.pay_frame.specs.Frame.{FrameFields}
use Rattle.pay_frame.specs.Exact.{text_from}
use Rattle.pay_cli.specs.CheckText.{checking, at_start}
use Rattle.pay_cli.proofs.laws.one_text.Goals as goal

pub returns : goal.returns
returns c = record {
  text = λ k bytes one two a b p q.
      let mine = p.is in
      let other = q.is in
      let frames : mine.frames ≡ other.frames = c.one_stream.ensures.frames bytes mine.frames other.frames a b mine.stream other.stream in
      let ending : a ≡ b = c.one_stream.ensures.ending bytes mine.frames other.frames a b mine.stream other.stream in
      mine.texts ∙ ap (λ (fs : List FrameFields). text_from (checking k) (at_start k.keys) fs a) frames
      ∙ ap (λ (e : Option FrameFault). text_from (checking k) (at_start k.keys) other.frames e) ending ∙ sym other.texts;
  ending = λ k bytes one two a b p q. c.one_stream.ensures.ending bytes p.is.frames q.is.frames a b p.is.stream q.is.stream;
}
