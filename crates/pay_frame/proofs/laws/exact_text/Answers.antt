use Rattle.pay_frame.proofs.Exactly.{took, writes}
use Rattle.pay_frame.proofs.laws.exact_text.Goals as goal

pub returns : goal.returns
returns g c = record {
  text = λ h start stage result handled. writes h c.every_stream.ensures.law c.stream_goes_on.ensures.parted c.stream_grows.ensures.piece start stage result handled;
  took = λ h start stage result handled. took h c.stream_grows.ensures.piece start stage result handled;
}
