use Rattle.std.proofs.Common.{◌≡◌, map}
use Rattle.pay_net.specs.Running.{others_below}
use Rattle.pay_net.specs.Seating.{AreSeated}
use Rattle.pay_net.proofs.Seatings.{AreLeft}
use Rattle.pay_net.proofs.seats.seat_threads.Given as goal

-- each peer so far has a reader, and took two seats
abbrev pub invariant-loop-peer : goal.invariant-loop-peer
invariant-loop-peer l =
    AreSeated l.own l.peer l.readers.items l.left.items × AreLeft l.own l.members l.peer l.left.items
    × (map (λ w. w.0) l.writers.items ≡ others_below l.own l.peer)
