use Rattle.std.proofs.Common.{◌≡◌, ◌++◌, length}
use Rattle.std.specs.Vec.Iter.{into_iter_items}
use Rattle.pay_net.specs.Seating.{BringsWriters}
use Rattle.pay_net.proofs.seats.gather_writers.Given as goal

abbrev pub invariant-loop-seat : goal.invariant-loop-seat
invariant-loop-seat l =
    BringsWriters (length l.yielded) l.fn.all.items l.all.items
    × (l.yielded ++ into_iter_items l.seat-iterator ≡ l.fn.writers.items)
