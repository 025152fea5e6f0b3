use Rattle.std.proofs.Common.{◌∷◌, [], ◌≡◌, ◌<◌, Some, false, refl, ap, map, length, take, nat_lt, zero-add, ◌++◌, ◌∙◌, ◌+◌, arith, rules}
use Rattle.std.proofs.lemmas.Grind.{common_steps}
use Rattle.std.specs.List.{slice_get}
use Rattle.std.proofs.lemmas.List.{take_all}
use Rattle.std.proofs.lemmas.List.FromFn.{get_or-map-range_with_len, length-map-range_with_len}
use Rattle.std.proofs.lemmas.Option.{slice_get-get_or}
use Rattle.serde_json.specs.Written.{comma_if, compact_text}
use Rattle.pay_link.specs.Genesis.{GenesisFields}
use Rattle.pay_audit.specs.Exporting.{export_of, list_data, lists_of_member}
use Rattle.pay_audit.specs.Gathering.{Adds, state}
use Rattle.pay_audit.proofs.Gathering.{adds_next, adds_then}
use Rattle.pay_audit.proofs.Items.{all_in_array, begun, next_in_array}
use Rattle.pay_audit.proofs.export_writing.add_lists.Goals as goal

pub loop-owner-preserved : goal.loop-owner-preserved
loop-owner-preserved g c =
    let at = state g.W.Output.contents g.W.Output.failure_count in
    let m = c.args.member.now in
    let n = m.genesis.members in
    let list = (export_of m).lists in
    let k = c.loop-owner.owner in
    let members : c.members-owner-end.result ≡ n = c.members-owner-end.ensures.value ∙ ap (λ (x : GenesisFields). x.members) c.genesis.ensures.value in
    let below : k < n = omega (arith, members, c.loop-owner-test.true) in
    let within : k < length list = omega (arith, below, length-map-range_with_len (lists_of_member m) 0 n) in
    let got : slice_get list k ≡ Some (lists_of_member m k) = slice_get-get_or list k [] within ∙ ap (λ l. Some l) (get_or-map-range_with_len (lists_of_member m) 0 n k k [] below (zero-add k)) in
    let start = at c.args.text.now c.args.writer.now in
    let behind = at c.add_comma.new.self c.add_comma.new.writer in
    let so_far = 91 ∷ begun false (map list_data (take k list)) in
    let comma : Adds (at c.loop-owner.text c.loop-owner.writer) behind (comma_if (nat_lt 0 k)) = search rules in
    let here = compact_text (list_data (lists_of_member m k)) in
    adds_next start behind (at c.add_list.new.text c.add_list.new.writer)
    (so_far ++ comma_if (nat_lt 0 k)) here (91 ∷ begun false (map list_data (take (k + 1) list)))
    (adds_then start (at c.loop-owner.text c.loop-owner.writer) behind so_far (comma_if (nat_lt 0 k)) c.loop-owner.invariant comma)
    c.add_list.ensures (next_in_array list_data list k (lists_of_member m k) here got refl)

pub returns : goal.returns
returns g c =
    let at = state g.W.Output.contents g.W.Output.failure_count in
    let m = c.args.member.now in
    let list = (export_of m).lists in
    let k = c.loop-owner.owner in
    let members : c.members-owner-end.result ≡ m.genesis.members = c.members-owner-end.ensures.value ∙ ap (λ (x : GenesisFields). x.members) c.genesis.ensures.value in
    let all : take k list ≡ list = take_all k list (omega (arith, members, length-map-range_with_len (lists_of_member m) 0 m.genesis.members, c.loop-owner-test.false)) in
    adds_next (at c.args.text.now c.args.writer.now) (at c.loop-owner.text c.loop-owner.writer) (at c.add-2.new.self c.add-2.new.writer)
    (91 ∷ begun false (map list_data (take k list))) (93 ∷ []) _
    c.loop-owner.invariant c.add-2.ensures (all_in_array list_data list k all)

pub loop-owner-init : goal.loop-owner-init
loop-owner-init g c = grind (arith, common_steps)
