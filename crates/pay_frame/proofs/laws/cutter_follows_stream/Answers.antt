use Rattle.pay_frame.proofs.Streams as proved
use Rattle.pay_frame.proofs.laws.cutter_follows_stream.Goals as goal

pub returns : goal.returns
returns c = record {
  feed = proved.fed;
  next = proved.handed_out;
  fault = proved.first_fault;
  end = proved.ended;
}
