use Rattle.std.proofs.Common.{◌≡◌, ◌++◌, map}
use Rattle.std.specs.Vec.Iter.{into_iter_items}
use Rattle.pay_net.proofs.seats.gather_readers.Given as goal

abbrev pub invariant-loop-asking : goal.invariant-loop-asking
invariant-loop-asking l =
    (l.all.items ≡ l.fn.all.items ++ map (λ r. r.1.seat) l.yielded)
    × (l.yielded ++ into_iter_items l.asking-iterator ≡ l.fn.readers.items)
