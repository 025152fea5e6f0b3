use Rattle.std.proofs.Common.{◌≡◌, ◌++◌, drop, option_map}
use Rattle.serde_json.specs.View.{items_view}
use Rattle.pay_audit.specs.Export.{values_said}
use Rattle.pay_audit.proofs.reading.values_said.Given as goal

-- the values are those so far, and those of the rest
abbrev pub invariant-loop-item : goal.invariant-loop-item
invariant-loop-item l =
    values_said (items_view l.items)
    ≡ option_map (λ vs. l.values.items ++ vs) (values_said (items_view (drop l.item-index l.items)))
