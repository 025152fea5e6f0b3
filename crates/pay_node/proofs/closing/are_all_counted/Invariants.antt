use Rattle.std.proofs.Common.{◌≡◌, ◌<◌, ℕ, Some, length, slice_get}
use Rattle.std.specs.Prelude.{slice_index}
use Rattle.pay_node.specs.Seats.{SeatFields}
use Rattle.pay_node.proofs.closing.are_all_counted.Given as goal

abbrev pub invariant-loop-k : goal.invariant-loop-k
invariant-loop-k l = (j : ℕ) (seat : SeatFields) → j < l.k → slice_get l.seats j ≡ Some seat → slice_index l.counts j ≡ length seat.receipts
