use Rattle.std.proofs.Common.{◌↔◌, drop}
use Rattle.pay_node.specs.Closing.{IsCounted, IsCountedFrom}
use Rattle.pay_node.proofs.closing.is_counted.Given as goal

abbrev pub invariant-loop-seat : goal.invariant-loop-seat
invariant-loop-seat l = IsCounted l.member l.base l.stamp l.seats ↔ IsCountedFrom l.member l.base l.stamp l.met (drop l.seat-index l.seats)
