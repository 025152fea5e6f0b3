use Rattle.std.proofs.Common.{◌≡◌, ◌≤◌, [], List, length, take}
use Rattle.pay_frame.specs.Frame.{FrameFields}
use Rattle.pay_frame.specs.Stream.{IsFramesThen}
use Rattle.pay_frame.proofs.reading.frames_in_front.Given as goal

-- so many frames are in front, of so many bytes
abbrev pub invariant-loop-count : goal.invariant-loop-count
invariant-loop-count l = record {
  within : l.size ≤ length l.bytes;
  front : (frames : List FrameFields) × IsFramesThen (take l.size l.bytes) frames [] × (l.count ≡ length frames);
  none : l.count ≡ 0 → l.size ≡ 0;
}
