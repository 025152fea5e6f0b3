use Rattle.std.proofs.Common.{◌≡◌, ◌++◌, drop, option_map}
use Rattle.serde_json.specs.View.{items_view}
use Rattle.pay_link.specs.Json.{numbers_in}
use Rattle.pay_link.proofs.json.numbers_at.Given as goal

-- the list's numbers are those so far, and those of the rest
abbrev pub invariant-loop-item : goal.invariant-loop-item
invariant-loop-item l =
    numbers_in (items_view l.item-items)
    ≡ option_map (λ ns. l.numbers.items ++ ns) (numbers_in (items_view (drop l.item-index l.item-items)))
