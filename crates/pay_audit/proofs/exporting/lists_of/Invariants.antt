use Rattle.std.proofs.Common.{◌≡◌, map}
use Rattle.std.specs.List.{range_with_len}
use Rattle.serde_json.specs.View.{view}
use Rattle.pay_audit.specs.Exporting.{list_data, lists_of_member}
use Rattle.pay_audit.proofs.exporting.lists_of.Given as goal

-- those of the owners so far
abbrev pub invariant-loop-owner : goal.invariant-loop-owner
invariant-loop-owner g l =
    map view l.lists.items ≡ map list_data (map (lists_of_member l.member) (range_with_len 0 l.owner))
