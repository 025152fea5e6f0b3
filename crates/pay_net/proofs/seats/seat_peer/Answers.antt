use Rattle.pay_net.proofs.Seatings.{none_called}
use Rattle.pay_net.proofs.seats.seat_peer.Goals as goal

pub new-fetches-requires : goal.new-fetches-requires
new-fetches-requires c = none_called _ _ _ _ _ c.requires.fresh c.last_of.ensures c.last_of-then-peer-own.ensures
