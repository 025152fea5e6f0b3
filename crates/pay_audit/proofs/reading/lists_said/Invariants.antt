use Rattle.std.proofs.Common.{◌≡◌, ◌++◌, drop, option_map}
use Rattle.serde_json.specs.View.{items_view}
use Rattle.pay_audit.specs.Export.{AreShort, lists_said}
use Rattle.pay_audit.proofs.reading.lists_said.Given as goal

-- the lists are those so far, and those of the rest
abbrev pub invariant-loop-item : goal.invariant-loop-item
invariant-loop-item l = record {
  short : AreShort l.lists.items;
  said : lists_said (items_view l.items)
      ≡ option_map (λ ls. l.lists.items ++ ls) (lists_said (items_view (drop l.item-index l.items)));
}
