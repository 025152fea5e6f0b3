use Rattle.std.proofs.Common.{◌∷◌, [], ◌≡◌, false, map, take, nat_lt, ◌++◌, ◌+◌, refl, arith, rules}
use Rattle.std.proofs.lemmas.List.{take_all}
use Rattle.serde_json.specs.Written.{comma_if, compact_text}
use Rattle.pay_audit.specs.Exporting.{value_data}
use Rattle.pay_audit.specs.Gathering.{Adds, state}
use Rattle.pay_audit.proofs.Gathering.{adds_next, adds_then}
use Rattle.pay_audit.proofs.Items.{all_in_array, begun, next_in_array}
use Rattle.pay_audit.proofs.export_writing.add_list.Goals as goal

pub loop-place-preserved : goal.loop-place-preserved
loop-place-preserved g c =
    let at = state g.W.Output.contents g.W.Output.failure_count in
    let list = g.S.Source.lists c.args.source.now c.args.owner in
    let k = c.loop-place.place in
    let start = at c.args.text.now c.args.writer.now in
    let behind = at c.add_comma.new.self c.add_comma.new.writer in
    let so_far = 91 ∷ begun false (map value_data (take k list)) in
    let comma : Adds (at c.loop-place.text c.loop-place.writer) behind (comma_if (nat_lt 0 k)) = search rules in
    adds_next start behind (at c.add_value.new.text c.add_value.new.writer)
    (so_far ++ comma_if (nat_lt 0 k)) (compact_text (value_data c.at.result.now)) (91 ∷ begun false (map value_data (take (k + 1) list)))
    (adds_then start (at c.loop-place.text c.loop-place.writer) behind so_far (comma_if (nat_lt 0 k)) c.loop-place.invariant comma)
    c.add_value.ensures (next_in_array value_data list k c.at.result.now (compact_text (value_data c.at.result.now)) c.at.ensures refl)

pub returns : goal.returns
returns g c =
    let at = state g.W.Output.contents g.W.Output.failure_count in
    let list = g.S.Source.lists c.args.source.now c.args.owner in
    let k = c.loop-place.place in
    let all : take k list ≡ list = take_all k list (omega (arith, c.loop-place-test.false, c.length-place-end.ensures)) in
    adds_next (at c.args.text.now c.args.writer.now) (at c.loop-place.text c.loop-place.writer) (at c.add-2.new.self c.add-2.new.writer)
    (91 ∷ begun false (map value_data (take k list))) (93 ∷ []) _
    c.loop-place.invariant c.add-2.ensures (all_in_array value_data list k all)
