use Rattle.std.proofs.Common.{◌≡◌, ◌++◌, drop, map, option_map}
use Rattle.serde_json.specs.View.{items_view}
use Rattle.pay_link.specs.Json.{texts_in}
use Rattle.payd.proofs.groups.texts_at.Given as goal

-- the list's texts are those so far, and those of the rest
abbrev pub invariant-loop-item : goal.invariant-loop-item
invariant-loop-item l =
    texts_in (items_view l.item-items)
    ≡ option_map (λ ts. map (λ t. t.now) l.texts.items ++ ts) (texts_in (items_view (drop l.item-index l.item-items)))
