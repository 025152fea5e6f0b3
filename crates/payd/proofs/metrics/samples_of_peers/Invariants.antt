use Rattle.std.proofs.Common.{◌≡◌, ◌++◌, drop}
use Rattle.std.specs.List.{flat_map}
use Rattle.payd.specs.Metrics.{sample_of_peer}
use Rattle.payd.proofs.metrics.samples_of_peers.Given as goal

-- with the peers that are to come the values are those of all
abbrev pub invariant-loop-peer : goal.invariant-loop-peer
invariant-loop-peer l =
    l.samples.items ++ flat_map (sample_of_peer l.figure) (drop l.peer-index l.peers) ≡ flat_map (sample_of_peer l.figure) l.peers
