use Rattle.pay_frame.proofs.Streams as proved
use Rattle.pay_frame.proofs.laws.stream_grows.Goals as goal

pub returns : goal.returns
returns c = record {
  nothing = proved.no_frames;
  piece = proved.more_bytes;
  frame = proved.next_frame;
  frames = proved.more_frames;
}
