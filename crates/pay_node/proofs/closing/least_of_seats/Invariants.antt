use Rattle.std.proofs.Common.{◌≡◌, None, take}
use Rattle.std.specs.List.{fold}
use Rattle.pay_node.specs.Seats.{SeatFields}
use Rattle.pay_node.specs.Closing.{lesser}
use Rattle.pay_node.proofs.closing.least_of_seats.Given as goal

abbrev pub invariant-loop-seat : goal.invariant-loop-seat
invariant-loop-seat l = l.least ≡ fold (λ least (s : SeatFields). lesser l.count least s.stamp) None (take l.seat-index l.seats)
