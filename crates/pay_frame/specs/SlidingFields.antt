-- What the fields of a sliding buffer hold.
use Rattle.std.specs.Prelude.{◌-◌, ◌≤◌, length, take, drop}
use Rattle.pay_frame.specs.declared.sliding_buffer.SlidingBuffer.TheInside.{Inside}
use Rattle.pay_frame.specs.Sliding.{Sliding}

abbrev pub sliding_of : Inside → Sliding
sliding_of b = record {
  consumed = take (b.start - b.consumed) (drop b.consumed b.buffer.items);
  bytes = take (b.end - b.start) (drop b.start b.buffer.items);
  room = length b.buffer.items;
}

-- the places lie in the buffer, in order
pub record IsInOrder (b : Inside) : Type 0 where
  pub consumed : b.consumed ≤ b.start
  pub begins : b.start ≤ b.end
  pub ends : b.end ≤ length b.buffer.items
