use Rattle.std.proofs.Common.{◌≡◌, [], ap, map, rules}
use Rattle.pay_net.proofs.Seatings.{answered_on, left_at_first, left_on, seated_none, seated_on}
use Rattle.pay_net.proofs.seats.seat_threads.Goals as goal

pub loop-peer-init : goal.loop-peer-init
loop-peer-init c =
    let empty : c.new-readers.result.items ≡ [] = search rules in (
      seated_none c.args.own _ c.args.seats.items _ _ empty c.last_of-desk.ensures c.requires.fresh,
      left_at_first c.args.own c.args.members c.args.seats.items _ _ c.last_of-desk.ensures c.requires.count,
      search rules,
    )

pub seat_peer-requires-clause-fresh : goal.seat_peer-requires-clause-fresh
seat_peer-requires-clause-fresh c = c.loop-peer.invariant.0.left

pub loop-peer-preserved : goal.loop-peer-preserved
loop-peer-preserved c =
    let so_far = c.loop-peer.invariant in
    let own = c.seat_peer.ensures.own in
    let none = c.seat_peer.ensures.none in
    let own_writer = c.seat_peer.ensures.own_writer in
    let peer = c.in_ok-seat_peer.ensures.peer in (
      seated_on _ _ _ _ _ _ own none peer so_far.0,
      left_on _ _ _ _ _ _ _ none peer so_far.1,
      answered_on _ _ _ _ (λ is. ap (map (λ w. w.0)) (own_writer is)) c.in_ok-seat_peer.ensures.writer so_far.2,
    )
