use Rattle.pay_peers.specs.Growing.{SeatGrows}
use Rattle.pay_peers.proofs.readers.Workers.keep_reading.Given as goal

abbrev pub invariant-loop : goal.invariant-loop
invariant-loop g l = SeatGrows l.peer l.fn.asking.seat l.asking.seat
