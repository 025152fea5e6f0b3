use Rattle.std.proofs.Common.{◌↔◌, drop}
use Rattle.pay_node.specs.Closing.{HasConsistentSeat, HasConsistentSeatFrom}
use Rattle.pay_node.proofs.closing.is_kept.Given as goal

abbrev pub invariant-loop-seat : goal.invariant-loop-seat
invariant-loop-seat l = HasConsistentSeat l.member l.base l.stamp l.seats ↔ HasConsistentSeatFrom l.member l.base l.stamp l.met (drop l.seat-index l.seats)
