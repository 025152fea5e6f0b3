use Rattle.std.proofs.Common.{◌≤◌, length, map, ap, ◌∙◌, arith}
use Rattle.std.proofs.lemmas.List.{take_all}
use Rattle.serde_json.proofs.Views.{view-Array}
use Rattle.serde_json.specs.Data.{array}
use Rattle.serde_json.specs.View.{items_of}
use Rattle.pay_audit.specs.Exporting.{value_data}
use Rattle.pay_audit.proofs.Pushing.{next_item}
use Rattle.pay_audit.proofs.exporting.list_of.Goals as goal

pub loop-place-preserved : goal.loop-place-preserved
loop-place-preserved g c =
    let list = g.S.Source.lists c.args.source.now c.args.owner in
    next_item value_data list c.loop-place.place c.at.result.now c.loop-place.values.items c.push.new.self.items _
    c.at.ensures c.loop-place.invariant c.in_ok-push.ensures.items c.in_ok-value_of.ensures

pub returns : goal.returns
returns g c =
    let list = g.S.Source.lists c.args.source.now c.args.owner in
    let all : length list ≤ c.loop-place.place = omega (arith, c.loop-place-test.false, c.length-place-end.ensures) in
    view-Array c.loop-place.values ∙ ap (λ ds. array (items_of ds)) (c.loop-place.invariant ∙ ap (map value_data) (take_all c.loop-place.place list all))
