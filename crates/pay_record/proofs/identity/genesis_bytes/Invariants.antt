use Rattle.std.proofs.Common.{◌≡◌, ◌++◌, take}
use Rattle.std.specs.Int.{w16, w64, to_be_bytes}
use Rattle.std.specs.List.{flat_map}
use Rattle.pay_record.proofs.identity.genesis_bytes.Given as goal

-- the openings so far
abbrev pub invariant-loop-account : goal.invariant-loop-account
invariant-loop-account l =
    l.bytes.items
    ≡ (to_be_bytes w16 l.genesis.members ++ to_be_bytes w16 l.genesis.faults)
    ++ flat_map (to_be_bytes w64) (take l.account l.genesis.opening)
