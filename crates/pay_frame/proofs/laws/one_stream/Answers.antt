use Rattle.pay_frame.proofs.Streams as proved
use Rattle.pay_frame.proofs.laws.one_stream.Goals as goal

pub returns : goal.returns
returns c = record {
  frames = λ bytes one two a b p q. (proved.one_stream bytes one two a b p q).frames;
  ending = λ bytes one two a b p q. (proved.one_stream bytes one two a b p q).ending;
}
