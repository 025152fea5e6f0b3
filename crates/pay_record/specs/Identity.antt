-- The key of a member's log, and the header by which the log is known.
use Rattle.std.specs.Prelude.{ℕ, ◌==◌, List, ◌++◌, codes, length, if◌then◌else◌}
use Rattle.std.specs.Int.{w16, w64, to_be_bytes}
use Rattle.std.specs.List.{flat_map, range_with_len}
use Rattle.sha2.specs.Sha256.{sha256}
use Rattle.pay_hmac.specs.Mac.{mac}
use Rattle.pay_link.specs.Genesis.{GenesisFields}
use Rattle.pay_link.specs.Keys.{KeyFields, key_for, no_key}
use Rattle.pay_log.specs.declared.header.Header.{Header}

-- the key that a member shares with another, and zeros for itself
abbrev pub shared_key : KeyFields → ℕ → List ℕ
shared_key k p = if p == k.own then no_key else key_for k p

-- the keys of all members, in their order
abbrev pub all_keys : KeyFields → List ℕ
all_keys k = flat_map (shared_key k) (range_with_len 0 (length k.keys))

abbrev pub log_key_of : KeyFields → List ℕ
log_key_of k = mac (all_keys k) (codes "payd log 1")

-- members, faults, and what each account opens with
abbrev pub genesis_bytes : GenesisFields → List ℕ
genesis_bytes g =
    to_be_bytes w16 g.members ++ to_be_bytes w16 g.faults
    ++ flat_map (to_be_bytes w64) g.opening

abbrev pub header_of : GenesisFields → KeyFields → Header
header_of g k =
    record {
      genesis = sha256 (genesis_bytes g);
      member = k.own;
      keys = mac (log_key_of k) (codes "payd log keys 4");
    }
