use Rattle.std.proofs.Common.{◌<◌, ◌≤◌, [], length, map, ap, subst, ◌∙◌, arith}
use Rattle.std.proofs.lemmas.List.{take_all}
use Rattle.std.proofs.lemmas.Option.{slice_get-get_or}
use Rattle.serde_json.proofs.Views.{view-Array}
use Rattle.serde_json.specs.Data.{array}
use Rattle.serde_json.specs.View.{items_of}
use Rattle.pay_audit.specs.Export.{ExportFields, IsExport, lists_of}
use Rattle.pay_audit.specs.Exporting.{list_data}
use Rattle.pay_audit.proofs.Pushing.{next_item}
use Rattle.pay_audit.proofs.shown.lists.Goals as goal

pub loop-owner-preserved : goal.loop-owner-preserved
loop-owner-preserved c =
    let e = c.args.export.now in
    let owner = c.loop-owner.owner in
    let sound : IsExport e = subst IsExport c.export.view_is c.export.invariant in
    let members = ap (λ (x : ExportFields). x.genesis.members) c.export.view_is in
    let within : owner < length e.lists = omega (arith, c.loop-owner-test.true, c.members-owner-end.ensures.value, members, sound.lists) in
    next_item list_data e.lists owner (lists_of e owner) c.loop-owner.lists.items c.push.new.self.items _
    (slice_get-get_or e.lists owner [] within) c.loop-owner.invariant c.in_ok-push.ensures.items c.in_ok-list_of.ensures

pub returns : goal.returns
returns c =
    let e = c.args.export.now in
    let sound : IsExport e = subst IsExport c.export.view_is c.export.invariant in
    let members = ap (λ (x : ExportFields). x.genesis.members) c.export.view_is in
    let all : length e.lists ≤ c.loop-owner.owner = omega (arith, c.loop-owner-test.false, c.members-owner-end.ensures.value, members, sound.lists) in
    view-Array c.loop-owner.lists ∙ ap (λ ds. array (items_of ds)) (c.loop-owner.invariant ∙ ap (map list_data) (take_all c.loop-owner.owner e.lists all))
