use Rattle.pay_link.proofs.Owned.{from_peer_law, sealed_by_peer_law}
use Rattle.pay_link.proofs.laws.sealed_by_peer.Goals as goal

pub returns : goal.returns
returns c = record { kept = sealed_by_peer_law; for_me = from_peer_law }
