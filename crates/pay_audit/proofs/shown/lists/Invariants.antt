use Rattle.std.proofs.Common.{◌≡◌, map, take}
use Rattle.serde_json.specs.View.{view}
use Rattle.pay_audit.specs.Exporting.{list_data}
use Rattle.pay_audit.proofs.shown.lists.Given as goal

-- those of the owners so far
abbrev pub invariant-loop-owner : goal.invariant-loop-owner
invariant-loop-owner l = map view l.lists.items ≡ map list_data (take l.owner l.export.lists)
