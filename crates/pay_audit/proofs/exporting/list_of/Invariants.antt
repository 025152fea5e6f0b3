use Rattle.std.proofs.Common.{◌≡◌, map, take}
use Rattle.serde_json.specs.View.{view}
use Rattle.pay_audit.specs.Exporting.{value_data}
use Rattle.pay_audit.proofs.exporting.list_of.Given as goal

-- those so far
abbrev pub invariant-loop-place : goal.invariant-loop-place
invariant-loop-place g l =
    map view l.values.items ≡ map value_data (take l.place (g.S.Source.lists l.source l.owner))
