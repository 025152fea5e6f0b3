use Rattle.std.proofs.Common.{◌≡◌}
use Rattle.std.specs.List.{flat_map, range_with_len}
use Rattle.pay_record.specs.Identity.{shared_key}
use Rattle.pay_record.proofs.identity.all_keys.Given as goal

-- the keys so far
abbrev pub invariant-loop-member : goal.invariant-loop-member
invariant-loop-member l = l.bytes.items ≡ flat_map (shared_key l.keys) (range_with_len 0 l.member)
